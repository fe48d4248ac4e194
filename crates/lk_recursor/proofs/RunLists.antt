-- Locals of a run, taken from the last, and the binders over them.
use Rattle.std.proofs.Common.{◌≡◌, ℕ, suc, ◌+◌, List, [], ◌∷◌, ◌++◌, map, length, refl, sym, ap, subst, ◌∙◌, append_assoc, arith}
use Rattle.std.proofs.lemmas.List.{append-nil, length-map, map-append, length-append}
use Rattle.lk_tree.specs.Tree.{Tree}
use Rattle.lk_tree.specs.Bind.{close}
use Rattle.lk_inductive.specs.Block.{domain}
use Rattle.lk_inductive.specs.Recursors.{number}
use Rattle.lk_recursor.specs.declared.binders.Binder.{Binder}
use Rattle.lk_recursor.specs.declared.binders.Binder.TheVariants.{Pi, Lam}
use Rattle.lk_recursor.specs.Binders.{bind, bound_by, AreRun}
use Rattle.lk_subst.specs.Runs.{close_run_at}
use Rattle.lk_lists.proofs.Lists.{none_left}
use Rattle.lk_recursor.proofs.Lists.{bound-none}
use Rattle.lk_subst.proofs.Closed.{close_runs_at-none, close_runs_at-next}
use Rattle.lk_recursor.proofs.Bound.{close_runs-bind}

-- what is left and what is done are all; those that are done go on from those that are left
pub record RunsOn (first : ℕ) (left all : List Tree) : Type 0 where
  pub done : List Tree
  pub joined : left ++ done ≡ all
  pub runs : AreRun (first + length left) done

pub runs_first : (first : ℕ) (all : List Tree) → RunsOn first all all
runs_first first all = record { done = []; joined = append-nil all; runs = tt }

pub runs_next : (first : ℕ) (f : ℕ → Tree) (left others : List ℕ) (x : ℕ) (all : List Tree) → left ≡ others ++ x ∷ [] → number (f x) ≡ first + length others → RunsOn first (map f left) all → RunsOn first (map f others) all
runs_next first f left others x all split here was =
    let front : map f left ≡ map f others ++ f x ∷ [] = ap (map f) split ∙ map-append f others (x ∷ []) in
    let many = length-map others f in
    let longer : length (map f left) ≡ length others + 1 = length-map left f ∙ ap length split ∙ length-append others (x ∷ []) in
    let next : first + length (map f left) ≡ suc (first + length (map f others)) = omega arith in
    record {
      done = f x ∷ was.done;
      joined = sym (append_assoc (map f others) (f x ∷ []) was.done) ∙ ap (λ ys. ys ++ was.done) (sym front) ∙ was.joined;
      runs = ((let s : number (f x) ≡ first + length (map f others) = omega arith in s), subst (λ k. AreRun k was.done) next was.runs);
    }

pub runs_end : (first : ℕ) (f : ℕ → Tree) (left : List ℕ) (all : List Tree) → length left ≡ 0 → RunsOn first (map f left) all → AreRun first all
runs_end first f left all none was =
    let empty = none_left f left none in
    let zero_left : first + length (map f left) ≡ first = (let many = length-map left f in omega arith) in
    let whole : was.done ≡ all = ap (λ ys. ys ++ was.done) (sym empty) ∙ was.joined in
    subst (AreRun first) whole (subst (λ k. AreRun k was.done) zero_left was.runs)

-- the last of a run
run_last : (k : ℕ) (xs : List Tree) (x : Tree) → AreRun k (xs ++ x ∷ []) → AreRun k xs × (number x ≡ k + length xs)
run_last k [] x h = (tt, (let here = h.0 in omega arith))
run_last k (y ∷ ys) x h =
    let rest = run_last (suc k) ys x h.1 in
    let here = rest.1 in
    ((h.0, rest.0), omega arith)

bound-cons : (b : Binder) (x : Tree) (xs : List Tree) (e : Tree) → bound_by b (x ∷ xs) e ≡ bind b (domain x) (close (number x) (bound_by b xs e))
bound-cons Pi x xs e = refl
bound-cons Lam x xs e = refl

-- a tree with the binders for the Locals that are done, in which those that are left are closed
pub record IsBound (b : Binder) (first : ℕ) (left all : List Tree) (e made : Tree) : Type 0 where
  pub done : List Tree
  pub joined : left ++ done ≡ all
  pub runs : AreRun first left
  pub is : made ≡ close_run_at 0 first (length left) (bound_by b done e)

pub bound_first : (b : Binder) (first : ℕ) (f : ℕ → Tree) (all : List ℕ) (e made : Tree) (count : ℕ) → count ≡ length all → AreRun first (map f all) → made ≡ close_run_at 0 first count e → IsBound b first (map f all) (map f all) e made
bound_first b first f all e made count many runs is = record {
  done = [];
  joined = append-nil (map f all);
  runs = runs;
  is = is ∙ ap (λ n. close_run_at 0 first n e) (many ∙ sym (length-map all f)) ∙ ap (close_run_at 0 first (length (map f all))) (sym (bound-none b e));
}

pub bound_next_in_run : (b : Binder) (first : ℕ) (f : ℕ → Tree) (left others : List ℕ) (x : ℕ) (all : List Tree) (e made next : Tree) (count : ℕ) → left ≡ others ++ x ∷ [] → count ≡ length others
    → next ≡ bind b (close_run_at 0 first count (domain (f x))) made → IsBound b first (map f left) all e made → IsBound b first (map f others) all e next
bound_next_in_run b first f left others x all e made next count split many is was =
    let X = bound_by b was.done e in
    let front : map f left ≡ map f others ++ f x ∷ [] = ap (map f) split ∙ map-append f others (x ∷ []) in
    let last = run_last first (map f others) (f x) (subst (AreRun first) front was.runs) in
    let m = length (map f others) in
    let same : count ≡ m = many ∙ sym (length-map others f) in
    let longer : length (map f left) ≡ suc m = (let all_left = length-map left f ∙ ap length split ∙ length-append others (x ∷ []) in let all_others = length-map others f in omega arith) in
    let made_is : made ≡ close_run_at 1 first m (close (number (f x)) X) =
    was.is ∙ ap (λ n. close_run_at 0 first n X) longer ∙ sym (close_runs_at-next 0 first 0 first m X) ∙ ap (λ k. close_run_at 1 first m (close k X)) (sym last.1) in
    record {
      done = f x ∷ was.done;
      joined = sym (append_assoc (map f others) (f x ∷ []) was.done) ∙ ap (λ ys. ys ++ was.done) (sym front) ∙ was.joined;
      runs = last.0;
      is =
          is
          ∙ ap (λ n. bind b (close_run_at 0 first n (domain (f x))) made) same
          ∙ ap (bind b (close_run_at 0 first m (domain (f x)))) made_is
          ∙ sym (close_runs-bind b 0 first 0 first m (domain (f x)) (close (number (f x)) X))
          ∙ ap (close_run_at 0 first m) (sym (bound-cons b (f x) was.done e));
    }

pub bound_end_of_run : (b : Binder) (first : ℕ) (f : ℕ → Tree) (left : List ℕ) (all : List Tree) (e made : Tree) → length left ≡ 0 → IsBound b first (map f left) all e made → made ≡ bound_by b all e
bound_end_of_run b first f left all e made none was =
    let empty = none_left f left none in
    let many : length (map f left) ≡ 0 = length-map left f ∙ none in
    let whole : was.done ≡ all = ap (λ ys. ys ++ was.done) (sym empty) ∙ was.joined in
    was.is ∙ ap (λ n. close_run_at 0 first n (bound_by b was.done e)) many ∙ close_runs_at-none 0 first first (bound_by b was.done e) ∙ ap (λ ys. bound_by b ys e) whole
