-- The Locals of lambdas, closed a run at a time.
use Rattle.std.proofs.Common.{◌≡◌, ◌<◌, ◌≤◌, ℕ, zero, suc, ◌+◌, ◌-◌, nat_lt, true, List, [], ◌∷◌, ◌++◌, length, map, refl, ap, sym, ◌∙◌, arith}
use Rattle.std.proofs.lemmas.Bool.Decides.{nat_tests}
use Rattle.std.proofs.lemmas.List.{map-append, length-append}
use Rattle.lk_tree.specs.Tree.{Tree, app, pi, var, sort, const, lam, let_in, proj, lit, wide, str, local}
use Rattle.lk_tree.specs.Bind.{close_at, bound}
use Rattle.lk_store.specs.Contents.{Contents, tree_at, Extends, IsTree}
use Rattle.lk_subst.specs.Numbers.{trees-steady}
use Rattle.lk_subst.specs.Runs.{run_var, close_runs_at, close_run_at}
use Rattle.lk_subst.specs.declared.runs.Run.{Run}
use Rattle.lk_subst.proofs.Closed.{close_runs_at-none, close_runs_at-next, close_runs_at-around}
use Rattle.lk_chain.specs.Pis.{pis_over}
use Rattle.lk_type.specs.Telescopes.{number_in, domains_of, numbers_of, closed_with, lambdas_type}
use Rattle.lk_type.specs.Lambdas.{counted, EndsIn, AreGathered}

-- a run begins one number before
pub counted_before : (j m : ℕ) → counted j (suc m) ≡ j ∷ counted (suc j) m
counted_before j zero = let e : j + 0 ≡ j = omega arith in ap (λ k. k ∷ []) e
counted_before j (suc m) =
    let e : j + suc m ≡ suc j + m = omega arith in
    rw (counted_before j m) (ap (λ k. j ∷ (counted (suc j) m ++ k ∷ [])) e)

length_counted : (j m : ℕ) → length (counted j m) ≡ m
length_counted j zero = refl
length_counted j (suc m) =
    let e = length-append (counted j m) ((j + m) ∷ []) in let h = length_counted j m in omega (arith, e, h)

append_step : {X : Type 0} (xs ys : List X) (y : X) → (xs ++ y ∷ []) ++ ys ≡ xs ++ (y ∷ ys)
append_step [] ys y = refl
append_step (x ∷ xs) ys y = ap (λ l. x ∷ l) (append_step xs ys y)

-- the number before a run is of the run
pub run_longer : (numbers left others : List ℕ) (before first count : ℕ) → numbers ≡ left ++ counted first count → left ≡ others ++ before ∷ [] → first ≡ suc before
    → numbers ≡ others ++ counted before (suc count)
run_longer numbers left others before first count is parts next =
    is ∙ (ap (λ l. l ++ counted first count) parts ∙ (append_step others (counted first count) before
    ∙ (ap (λ k. others ++ (before ∷ counted k count)) next ∙ ap (λ l. others ++ l) (sym (counted_before before count)))))

-- a run is not empty
pub run_shorter : (numbers others : List ℕ) (run : Run) → EndsIn numbers run others → length others < length numbers
run_shorter numbers others run ends =
    let some = ends.some in
    let l : length numbers ≡ length others + length (counted run.first run.count) = ap length ends.is ∙ length-append others (counted run.first run.count) in
    let m = length_counted run.first run.count in
    omega (arith, l, m, some)

-- one lambda more is gathered, with the number of its Local
pub domain_gathered : (t : ℕ → Tree) (old new : List ℕ) (A : ℕ) (b e x g f : Tree) → new ≡ old ++ A ∷ [] → e ≡ lam (t A) b → f ≡ app x g
    → map t new ++ domains_of b g ≡ map t old ++ domains_of e f
domain_gathered t old new A b e x g f is p q =
    ap (λ l. map t l ++ domains_of b g) is
    ∙ (ap (λ l. l ++ domains_of b g) (map-append t old (A ∷ []))
    ∙ (append_step (map t old) (domains_of b g) (t A) ∙ ap (λ l. map t old ++ l) (sym (rw (p, q) refl))))

pub number_gathered : (old new : List ℕ) (k : ℕ) (A b e x g f : Tree) → new ≡ old ++ k ∷ [] → k ≡ number_in x → e ≡ lam A b → f ≡ app x g
    → new ++ numbers_of b g ≡ old ++ numbers_of e f
number_gathered old new k A b e x g f is n p q =
    ap (λ l. l ++ numbers_of b g) is
    ∙ (append_step old (numbers_of b g) k ∙ (ap (λ y. old ++ (y ∷ numbers_of b g)) n ∙ ap (λ l. old ++ l) (sym (rw (p, q) refl))))

-- closed with Locals of these numbers, under so many binders
abbrev pub closed_under : ℕ → List ℕ → Tree → Tree
closed_under d [] T = T
closed_under d (k ∷ ks) T = close_at (d + length ks) k (closed_under d ks T)

under_none : (ks : List ℕ) (T : Tree) → closed_with ks T ≡ closed_under 0 ks T
under_none [] T = refl
under_none (k ∷ ks) T =
    let e : length ks ≡ 0 + length ks = omega arith in
    ap (close_at (length ks) k) (under_none ks T) ∙ ap (λ d. close_at d k (closed_under 0 ks T)) e

-- first those that stand last
under_append : (d : ℕ) (ks js : List ℕ) (T : Tree) → closed_under d (ks ++ js) T ≡ closed_under (d + length js) ks (closed_under d js T)
under_append d [] js T = refl
under_append d (k ∷ ks) js T =
    let l = length-append ks js in
    let e : d + length (ks ++ js) ≡ (d + length js) + length ks = omega (arith, l) in
    ap (close_at (d + length (ks ++ js)) k) (under_append d ks js T)
    ∙ ap (λ n. close_at n k (closed_under (d + length js) ks (closed_under d js T))) e

under_run : (d j m : ℕ) (T : Tree) → closed_under d (counted j m) T ≡ close_run_at d j m T
under_run d j zero T = sym (close_runs_at-none d j j T)
under_run d j (suc m) T =
    let one : d + 1 ≡ suc d = omega arith in
    let none : d + 0 ≡ d = omega arith in
    under_append d (counted j m) ((j + m) ∷ []) T
    ∙ (ap (λ n. closed_under n (counted j m) (close_at (d + 0) (j + m) T)) one
    ∙ (ap (λ n. closed_under (suc d) (counted j m) (close_at n (j + m) T)) none
    ∙ (under_run (suc d) j m (close_at d (j + m) T) ∙ close_runs_at-next d j 0 j m T)))

-- how far a type is closed, with these numbers left
pub record IsClosing (numbers left : List ℕ) (made T : Tree) : Type 0 where
  pub few : length left ≤ length numbers
  pub same : closed_under (length numbers - length left) left made ≡ closed_with numbers T

pub closing_first : (numbers : List ℕ) (T : Tree) → IsClosing numbers numbers T T
closing_first numbers T =
    let none : length numbers - length numbers ≡ 0 = omega arith in
    record {
      few = omega arith;
      same = ap (λ d. closed_under d numbers T) none ∙ sym (under_none numbers T);
    }

pub closing_on : (numbers left others : List ℕ) (run : Run) (count : ℕ) (made later T : Tree) → EndsIn left run others → count ≡ length numbers - length left
    → later ≡ close_run_at count run.first run.count made → IsClosing numbers left made T → IsClosing numbers others later T
closing_on numbers left others run count made later T ends counts is was =
    let few = was.few in
    let l : length left ≡ length others + length (counted run.first run.count) = ap length ends.is ∙ length-append others (counted run.first run.count) in
    let m = length_counted run.first run.count in
    let next : length numbers - length others ≡ count + length (counted run.first run.count) = omega (arith, l, few, counts) in
    record {
      few = omega (arith, l, few);
      same = ap (λ d. closed_under d others later) next
          ∙ (ap (closed_under (count + length (counted run.first run.count)) others) (is ∙ sym (under_run count run.first run.count made))
          ∙ (sym (under_append count others (counted run.first run.count) made)
          ∙ (ap (λ ks. closed_under count ks made) (sym ends.is)
          ∙ (ap (λ d. closed_under d left made) counts ∙ was.same))));
    }

pub closing_end : (numbers left : List ℕ) (made T : Tree) → left ≡ [] → IsClosing numbers left made T → made ≡ closed_with numbers T
closing_end numbers left made T none was = ap (λ ks. closed_under (length numbers - length left) ks made) (sym none) ∙ was.same

run_low : (d j m k : ℕ) (e : Tree) → k < j → run_var d j m k e ≡ e
run_low d j m k e h = let f : nat_lt k j ≡ true = grind (arith, nat_tests) in rw f refl

-- a run around another one, of which there is no Local
around_none : (d i n j m : ℕ) (t : Tree) → bound t ≤ j → close_runs_at d i n j m t ≡ close_runs_at (d + m) i n j 0 t
unfolding close_runs_at bound
around_none d i n j m (var x) h = refl
around_none d i n j m (sort l) h = refl
around_none d i n j m (const c ls) h = refl
around_none d i n j m (app f a) h = let p = around_none d i n j m f (omega arith) in let q = around_none d i n j m a (omega arith) in cc
around_none d i n j m (lam A b) h =
    let s : suc d + m ≡ suc (d + m) = omega arith in let p = around_none d i n j m A (omega arith) in
    let q = around_none (suc d) i n j m b (omega arith) ∙ ap (λ x. close_runs_at x i n j 0 b) s in cc
around_none d i n j m (pi A b) h =
    let s : suc d + m ≡ suc (d + m) = omega arith in let p = around_none d i n j m A (omega arith) in
    let q = around_none (suc d) i n j m b (omega arith) ∙ ap (λ x. close_runs_at x i n j 0 b) s in cc
around_none d i n j m (let_in A a b) h =
    let s : suc d + m ≡ suc (d + m) = omega arith in let p = around_none d i n j m A (omega arith) in
    let r = around_none d i n j m a (omega arith) in
    let q = around_none (suc d) i n j m b (omega arith) ∙ ap (λ x. close_runs_at x i n j 0 b) s in cc
around_none d i n j m (proj S x s) h = ap (proj S x) (around_none d i n j m s h)
around_none d i n j m (lit x) h = refl
around_none d i n j m wide h = refl
around_none d i n j m (str s) h = refl
around_none d i n j m (local k T) h =
    let same : (d + m) + 0 ≡ d + m = omega arith in
    run_low d j m k (run_var (d + m) i n k (local k T)) (omega arith)
    ∙ sym (run_low (d + m) j 0 k (run_var ((d + m) + 0) i n k (local k T)) (omega arith)
    ∙ ap (λ x. run_var x i n k (local k T)) same)

pub under_is : (i n j m : ℕ) (t : Tree) → j ≡ bound t → close_runs_at 0 i n j m t ≡ close_run_at m i n t
under_is i n j m t h =
    let none : 0 + m ≡ m = omega arith in
    around_none 0 i n j m t (omega arith)
    ∙ (ap (λ d. close_runs_at d i n j 0 t) none ∙ sym (close_runs_at-around m i i n j t))

-- the type of lambdas, of what was gathered and closed
pub type_is : {began now later : Contents} → Extends began now → (opened e locals ty closed r : ℕ) (domains numbers : List ℕ) → tree_at began opened ≡ app (tree_at began e) (tree_at began locals)
    → AreGathered began e locals domains numbers → IsTree now closed (closed_with numbers (tree_at began ty))
    → IsTree later r (pis_over (map (tree_at now) domains) (tree_at now closed)) → IsTree later r (lambdas_type (tree_at began opened) (tree_at began ty))
type_is {began} {now} grows opened e locals ty closed r domains numbers parts h inside made =
    let same : map (tree_at now) domains ≡ domains_of (tree_at began e) (tree_at began locals) = trees-steady began now domains grows h.known ∙ h.domains_are in
    record {
      known = made.known;
      is = made.is ∙ (ap (λ As. pis_over As (tree_at now closed)) same
          ∙ (ap (pis_over (domains_of (tree_at began e) (tree_at began locals)))
          (inside.is ∙ ap (λ ks. closed_with ks (tree_at began ty)) h.numbers_are)
          ∙ ap (λ x. lambdas_type x (tree_at began ty)) (sym parts)));
    }
