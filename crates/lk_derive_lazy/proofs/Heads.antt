-- What two heads unfold by, in a run and in the steps that are done.
use Rattle.std.proofs.Common.{ℕ, ◌≡◌, ◌+◌, List, ◌⊎◌, inl, inr, Bool, true, false, Option, Some, None, refl, sym, subst, ap, ◌∙◌, if◌then◌else◌, arith}
use Rattle.lk_tree.specs.Tree.{Name, Level, Tree, const}
use Rattle.lk_tree.specs.Spine.{head}
use Rattle.lk_tree.specs.declared.rule.Rule.TheVariants.{UnknownConstant}
use Rattle.lk_rulebook.specs.Place.{Place, Entry, Kind, a_def, a_thm, an_axiom, an_opaque, a_quot, a_type, a_ctor, a_rec}
use Rattle.lk_questions.specs.Answer.{later}
use Rattle.lk_questions.specs.Program.{Program, done, ◌>>=◌}
use Rattle.lk_questions.specs.Erased.{truth, looked, erased}
use Rattle.lk_questions.specs.Pairs.{Line, ◌or_else◌, answers, answers_yes}
use Rattle.lk_questions.specs.Steps.{value_of}
use Rattle.lk_questions.specs.Unfolding.{Unfolding, is_less, unfolding_by, unfolding_of, unfold_first, unfold_second, unfold_both, same_by_arguments, by_ranks, by_unfolding}
use Rattle.lk_claims.proofs.Pieces.{Some_inj}
use Rattle.lk_lazy.specs.Heads.{unfolding_at}
use Rattle.lk_lazy.specs.Lazies.{same_or_both, ranked}
use Rattle.lk_lazy.proofs.Programs.{answers_alone}
use Rattle.lk_lazy.proofs.Ranks.{both_heads}
use Rattle.lk_step.specs.Runs.{Runs, RunsOn}
use Rattle.lk_step.proofs.Runs.{runs_on}

-- the head h unfolds by this
pub record IsUnfolds (w : Place) (h : Tree) (p : Unfolding) : Type 0 where
  pub head_is : h ≡ const p.name p.levels
  pub given : w.means p.name ≡ Some p.entry
  pub value_is : value_of p.entry.kind ≡ Some p.value

by_kind : (w : Place) (c : Name) (ls : List Level) (g : Entry) (k : Kind) (p : Unfolding) → g.kind ≡ k → w.means c ≡ Some g → unfolding_by c ls g k ≡ Some p → IsUnfolds w (const c ls) p
by_kind w c ls g (a_def h v) p k i e = subst (IsUnfolds w (const c ls)) (Some_inj e) (record { head_is = refl; given = i; value_is = ap value_of k })
by_kind w c ls g (a_thm v) p k i e = subst (IsUnfolds w (const c ls)) (Some_inj e) (record { head_is = refl; given = i; value_is = ap value_of k })
by_kind w c ls g an_axiom p k i e = absurd cc
by_kind w c ls g (an_opaque v) p k i e = absurd cc
by_kind w c ls g a_quot p k i e = absurd cc
by_kind w c ls g (a_type b t) p k i e = absurd cc
by_kind w c ls g (a_ctor b t j) p k i e = absurd cc
by_kind w c ls g (a_rec r) p k i e = absurd cc

-- what a constant unfolds by that means this
abbrev pub by_meaning : Name → List Level → Option Entry → Option Unfolding
by_meaning c ls (Some g) = unfolding_by c ls g g.kind
by_meaning c ls None = None

pub unfolds_is : (w : Place) (h : Tree) (p : Unfolding) → unfolding_at w h ≡ Some p → IsUnfolds w h p
unfolds_is w (const c ls) p e = go (w.means c) refl e
  where
    go : (o : Option Entry) → w.means c ≡ o → by_meaning c ls o ≡ Some p → IsUnfolds w (const c ls) p
    go None i e = absurd cc
    go (Some g) i e = by_kind w c ls g g.kind p refl i e
unfolds_is w h p e = absurd cc

pub looked_runs : {A : Type 0} (w : Place) (h : Tree) (k : Option Unfolding → Program A) (v : A) (n : ℕ) → Runs w (unfolding_of h >>= k) v n → Runs w (k (unfolding_at w h)) v n
looked_runs w (const c ls) k v n r = subst (λ o. Runs w (k (by_meaning c ls o)) v n) (sym r.1) r.2
looked_runs w h k v n r = r

-- the last unit that was looked at, once h was
abbrev pub after_head : Place → Tree → Option ℕ → Option ℕ
after_head w (const c ls) t = later t (Some (w.origin c))
after_head w _ t = t

pub looked_steps : (w : Place) (h : Tree) (o : Option Unfolding) (n : ℕ) → Runs w (unfolding_of h) o n → (k : Option Unfolding → Line) (r : Program Bool) (t : Option ℕ) →
    erased w truth t ((unfolding_of h >>= k) or_else r) ≡ erased w truth (after_head w h t) (k (unfolding_at w h) or_else r)
looked_steps w (const c ls) o n h k r t =
    subst (λ o. looked UnknownConstant t o (w.origin c) (w.flaw c) (λ u g. erased w truth u (k (unfolding_by c ls g g.kind) or_else r)) ≡ erased w truth (later t (Some (w.origin c))) (k (by_meaning c ls o) or_else r)) (sym h.1) refl
looked_steps w h o n r k p t = refl

-- by what both heads mean there
abbrev pub by_heads : Place → Tree → Tree → Line
by_heads w a b = by_ranks a b (unfolding_at w (head a)) (unfolding_at w (head b))

pub at_heads : (w : Place) (a b : Tree) (v : Option Bool) (n : ℕ) → Runs w (by_unfolding a b) v n → Runs w (by_heads w a b) v n
at_heads w a b v n h =
    looked_runs w (head b) (by_ranks a b (unfolding_at w (head a))) v n
    (looked_runs w (head a) (λ u. unfolding_of (head b) >>= by_ranks a b u) v n h)

-- the steps of the line are those of what the heads mean, with whatever stands behind it
pub record StepsOn (w : Place) (a b : Tree) (t : Option ℕ) : Type 0 where
  pub last : Option ℕ
  pub are : (r : Program Bool) → erased w truth t (by_unfolding a b or_else r) ≡ erased w truth last (by_heads w a b or_else r)

pub steps_on : (w : Place) (a b : Tree) (v : Option Bool) (n : ℕ) → Runs w (by_unfolding a b) v n → (t : Option ℕ) → StepsOn w a b t
steps_on w a b v n h t =
    let one : RunsOn w (unfolding_of (head a)) (λ u. unfolding_of (head b) >>= by_ranks a b u) v n = runs_on w (unfolding_of (head a)) (λ u. unfolding_of (head b) >>= by_ranks a b u) v n h in
    let two : RunsOn w (unfolding_of (head b)) (by_ranks a b one.value) v one.second = runs_on w (unfolding_of (head b)) (by_ranks a b one.value) v one.second one.then_runs in
    record {
      last = after_head w (head b) (after_head w (head a) t);
      are = λ r. looked_steps w (head a) one.value one.first one.runs (λ u. unfolding_of (head b) >>= by_ranks a b u) r t
          ∙ looked_steps w (head b) two.value two.first two.runs (by_ranks a b (unfolding_at w (head a))) r (after_head w (head a) t);
    }

-- the line answers as this program does, whatever stands behind it
pub record Answers (w : Place) (a b : Tree) (o k : Option Unfolding) (v : Option Bool) (n : ℕ) : Type 0 where
  pub program : Program Bool
  pub is : (r : Program Bool) → (by_ranks a b o k or_else r) ≡ program
  pub answer : Bool
  pub says : v ≡ Some answer
  pub runs : Runs w program answer n

-- neither head unfolds, and it says nothing
pub record Neither (o k : Option Unfolding) (v : Option Bool) : Type 0 where
  pub left : o ≡ None
  pub right : k ≡ None
  pub says : v ≡ None

-- a line that always answers
pub record AnswerRuns (w : Place) (p : Program Bool) (v : Option Bool) (n : ℕ) : Type 0 where
  pub answer : Bool
  pub says : v ≡ Some answer
  pub runs : Runs w p answer n

pub answer_runs : (w : Place) (p : Program Bool) (v : Option Bool) (n : ℕ) → Runs w (answers p) v n → AnswerRuns w p v n
answer_runs w p v n h =
    let on : RunsOn w p (λ y. done (Some y)) v n = runs_on w p (λ y. done (Some y)) v n h in
    let paid : n ≡ on.first + on.second = on.paid in
    let free : on.second ≡ 0 = on.then_runs.1 in
    record { answer = on.value; says = sym on.then_runs.0; runs = subst (λ m. Runs w p on.value m) (omega (arith, paid, free)) on.runs }

answered_by : (w : Place) (a b : Tree) (o k : Option Unfolding) (p : Program Bool) (v : Option Bool) (n : ℕ) → ((r : Program Bool) → (by_ranks a b o k or_else r) ≡ p) → Runs w (answers p) v n → Answers w a b o k v n
answered_by w a b o k p v n is h =
    let r : AnswerRuns w p v n = answer_runs w p v n h in
    record { program = p; is = is; answer = r.answer; says = r.says; runs = r.runs }

-- both unfold
pub both_answer : (a b : Tree) (p q : Unfolding) → by_ranks a b (Some p) (Some q) ≡ answers (ranked a b p q)
both_answer a b p q = go (is_less p.rank q.rank) (is_less q.rank p.rank)
  where
    go : (x y : Bool) → (if x then answers (unfold_second a b q) else (if y then answers (unfold_first a b p) else answers (answers_yes (same_by_arguments a b p q) or_else unfold_both a b p q)))
        ≡ answers (if x then unfold_second a b q else (if y then unfold_first a b p else same_or_both a b p q))
    go true y = refl
    go false true = refl
    go false false = refl

pub reads : (w : Place) (a b : Tree) (o k : Option Unfolding) (v : Option Bool) (n : ℕ) → Runs w (by_ranks a b o k) v n → Neither o k v ⊎ Answers w a b o k v n
reads w a b None None v n h = inl (record { left = refl; right = refl; says = sym h.0 })
reads w a b (Some p) None v n h = inr (answered_by w a b (Some p) None (unfold_first a b p) v n (λ r. answers_alone (unfold_first a b p) r) h)
reads w a b None (Some q) v n h = inr (answered_by w a b None (Some q) (unfold_second a b q) v n (λ r. answers_alone (unfold_second a b q) r) h)
reads w a b (Some p) (Some q) v n h =
    inr (answered_by w a b (Some p) (Some q) (ranked a b p q) v n (both_heads a b p q (Some p) (Some q) refl refl) (subst (λ l. Runs w l v n) (both_answer a b p q) h))

-- where it says yes, that program does
pub program_runs : (w : Place) (a b : Tree) (p : Program Bool) → ((r : Program Bool) → (by_heads w a b or_else r) ≡ p) → (n : ℕ) → Runs w (by_unfolding a b) (Some true) n → Runs w p true n
program_runs w a b p is n h = go (reads w a b (unfolding_at w (head a)) (unfolding_at w (head b)) (Some true) n (at_heads w a b (Some true) n h))
  where
    go : Neither (unfolding_at w (head a)) (unfolding_at w (head b)) (Some true) ⊎ Answers w a b (unfolding_at w (head a)) (unfolding_at w (head b)) (Some true) n → Runs w p true n
    go (inl x) = absurd (let e : Some true ≡ None = x.says in cc)
    go (inr x) =
        let one : x.program ≡ p = sym (x.is (done false)) ∙ is (done false) in
        let yes : x.answer ≡ true = sym (Some_inj x.says) in
        subst (λ y. Runs w p y n) yes (subst (λ q. Runs w q x.answer n) one x.runs)
