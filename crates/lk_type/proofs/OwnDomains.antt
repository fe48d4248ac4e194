-- The type of lambdas, by closing one Local after the other: it is made of Pis over their own domains.
use Rattle.std.proofs.Common.{◌≡◌, ℕ, zero, suc, ◌+◌, ◌≤◌, ◌⊎◌, inl, inr, true, false, nat_eq, List, [], ◌∷◌, length, refl, ap, sym, subst, ◌∙◌, arith}
use Rattle.std.proofs.lemmas.Bool.Decides.{nat_tests}
use Rattle.lk_tree.specs.Tree.{Tree, var, sort, const, app, lam, pi, let_in, proj, lit, wide, str, local}
use Rattle.lk_tree.specs.Bind.{open_at, open_var, opened, close_at, close, bound}
use Rattle.lk_tree.specs.Loose.{loose}
use Rattle.lk_tree.proofs.Binding.{Opening, opening, below, at, above, Closing, closing, closed, stays}
use Rattle.lk_chain.specs.Pis.{pis_over}
use Rattle.lk_type.specs.declared.sheet.Binders.TheVariants.{Lambdas}
use Rattle.lk_type.specs.Telescopes.{number_in, fresh, OpensTo, ahead, domains_of, numbers_of, closed_with, lambdas_type}

-- a tree that is opened has one loose variable less
pub open_loose : (d : ℕ) (v e : Tree) → loose v ≡ 0 → loose e ≤ suc d → loose (open_at d v e) ≤ d
unfolding open_at
open_loose d v (var i) z h = of_var (opening d i v)
  where
    of_var : Opening d i v → loose (open_var d v i) ≤ d
    of_var (below l e) = rw e (omega arith)
    of_var (at l e) = rw e (omega arith)
    of_var (above l e) = absurd (omega arith)
open_loose d v (sort l) z h = omega arith
open_loose d v (const c ls) z h = omega arith
open_loose d v (app f a) z h = let p = open_loose d v f z (omega arith) in let q = open_loose d v a z (omega arith) in omega arith
open_loose d v (lam A b) z h = let p = open_loose d v A z (omega arith) in let q = open_loose (suc d) v b z (omega arith) in omega arith
open_loose d v (pi A b) z h = let p = open_loose d v A z (omega arith) in let q = open_loose (suc d) v b z (omega arith) in omega arith
open_loose d v (let_in A a b) z h =
    let p = open_loose d v A z (omega arith) in let q = open_loose d v a z (omega arith) in
    let r = open_loose (suc d) v b z (omega arith) in omega arith
open_loose d v (proj S i s) z h = open_loose d v s z h
open_loose d v (lit n) z h = omega arith
open_loose d v wide z h = omega arith
open_loose d v (str s) z h = omega arith
open_loose d v (local k T) z h = omega arith

-- what was opened with a fresh Local is closed again
closes : (d k : ℕ) (A b : Tree) → loose b ≤ suc d → bound b ≤ k → close_at d k (open_at d (local k A) b) ≡ b
unfolding open_at close_at bound
closes d k A (var i) z h = of_var (opening d i (local k A))
  where
    same : nat_eq k k ≡ true
    same = grind (arith, nat_tests)

    of_var : Opening d i (local k A) → close_at d k (open_var d (local k A) i) ≡ var i
    of_var (below l e) = rw e refl
    of_var (at l e) = rw (e, same) (ap var (sym l))
    of_var (above l e) = absurd (omega arith)
closes d k A (sort l) z h = refl
closes d k A (const c ls) z h = refl
closes d k A (app f a) z h = let p = closes d k A f (omega arith) (omega arith) in let q = closes d k A a (omega arith) (omega arith) in cc
closes d k A (lam B b) z h = let p = closes d k A B (omega arith) (omega arith) in let q = closes (suc d) k A b (omega arith) (omega arith) in cc
closes d k A (pi B b) z h = let p = closes d k A B (omega arith) (omega arith) in let q = closes (suc d) k A b (omega arith) (omega arith) in cc
closes d k A (let_in B a b) z h =
    let p = closes d k A B (omega arith) (omega arith) in let q = closes d k A a (omega arith) (omega arith) in
    let r = closes (suc d) k A b (omega arith) (omega arith) in cc
closes d k A (proj S i s) z h = ap (proj S i) (closes d k A s z h)
closes d k A (lit n) z h = refl
closes d k A wide z h = refl
closes d k A (str s) z h = refl
closes d k A (local j T) z h = let e : nat_eq j k ≡ false = grind (arith, nat_tests) in rw e refl

-- no lambda is left that was opened
pub record AreNone (e f : Tree) : Type 0 where
  pub domains : domains_of e f ≡ []
  pub numbers : numbers_of e f ≡ []

-- a lambda with its Local, or none, also where the term is closed
data Shape (e f : Tree) : Type 0 where
  both : (A b x g : Tree) → e ≡ lam A b → f ≡ app x g → Shape e f
  none : AreNone e f → ((d k : ℕ) → AreNone (close_at d k e) f) → Shape e f

none_there : (e f : Tree) → domains_of e f ≡ [] → numbers_of e f ≡ [] → AreNone e f
none_there e f p q = record { domains = p; numbers = q }

none_at_local : (d k j : ℕ) (T f : Tree) → Closing d k j T → AreNone (close_at d k (local j T)) f
none_at_local d k j T f (closed h e) = rw e (none_there (var d) f refl refl)
none_at_local d k j T f (stays h e) = rw e (none_there (local j T) f refl refl)

-- a lambda where no Local is left
alone : (A b f : Tree) → ((B c : Tree) → AreNone (lam B c) f) → Shape (lam A b) f
unfolding close_at
alone A b f h = none (h A b) (λ d k. h (close_at d k A) (close_at (suc d) k b))

shape : (e f : Tree) → Shape e f
unfolding close_at
shape (lam A b) (app x g) = both A b x g refl refl
shape (lam A b) (var i) = alone A b (var i) (λ B c. none_there (lam B c) (var i) refl refl)
shape (lam A b) (sort l) = alone A b (sort l) (λ B c. none_there (lam B c) (sort l) refl refl)
shape (lam A b) (const n ls) = alone A b (const n ls) (λ B c. none_there (lam B c) (const n ls) refl refl)
shape (lam A b) (lam C a) = alone A b (lam C a) (λ B c. none_there (lam B c) (lam C a) refl refl)
shape (lam A b) (pi C a) = alone A b (pi C a) (λ B c. none_there (lam B c) (pi C a) refl refl)
shape (lam A b) (let_in C v a) = alone A b (let_in C v a) (λ B c. none_there (lam B c) (let_in C v a) refl refl)
shape (lam A b) (proj S i s) = alone A b (proj S i s) (λ B c. none_there (lam B c) (proj S i s) refl refl)
shape (lam A b) (lit n) = alone A b (lit n) (λ B c. none_there (lam B c) (lit n) refl refl)
shape (lam A b) wide = alone A b wide (λ B c. none_there (lam B c) wide refl refl)
shape (lam A b) (str s) = alone A b (str s) (λ B c. none_there (lam B c) (str s) refl refl)
shape (lam A b) (local j T) = alone A b (local j T) (λ B c. none_there (lam B c) (local j T) refl refl)
shape (var i) f = none (none_there (var i) f refl refl) (λ d k. none_there (var i) f refl refl)
shape (sort l) f = none (none_there (sort l) f refl refl) (λ d k. none_there (sort l) f refl refl)
shape (const c ls) f = none (none_there (const c ls) f refl refl) (λ d k. none_there (const c ls) f refl refl)
shape (app h a) f = none (none_there (app h a) f refl refl) (λ d k. none_there (app (close_at d k h) (close_at d k a)) f refl refl)
shape (pi A b) f = none (none_there (pi A b) f refl refl) (λ d k. none_there (pi (close_at d k A) (close_at (suc d) k b)) f refl refl)
shape (let_in A v b) f = none (none_there (let_in A v b) f refl refl)
    (λ d k. none_there (let_in (close_at d k A) (close_at d k v) (close_at (suc d) k b)) f refl refl)
shape (proj S i s) f = none (none_there (proj S i s) f refl refl) (λ d k. none_there (proj S i (close_at d k s)) f refl refl)
shape (lit n) f = none (none_there (lit n) f refl refl) (λ d k. none_there (lit n) f refl refl)
shape wide f = none (none_there wide f refl refl) (λ d k. none_there wide f refl refl)
shape (str s) f = none (none_there (str s) f refl refl) (λ d k. none_there (str s) f refl refl)
shape (local j T) f = none (none_there (local j T) f refl refl) (λ d k. none_at_local d k j T f (closing d k j T))

-- a body that is opened is no application where it is a lambda
none_inside : (d : ℕ) (v b : Tree) → AreNone b (open_at d v b)
unfolding open_at
none_inside d v b = go (shape b (open_at d v b))
  where
    go : Shape b (open_at d v b) → AreNone b (open_at d v b)
    go (both A c x g p q) = let e : open_at d v (lam A c) ≡ app x g = ap (open_at d v) (sym p) ∙ q in absurd cc
    go (none n m) = n

-- where the lambdas are closed their own domains are, and what stands inside
record Spreads (d k : ℕ) (e f : Tree) : Type 0 where
  pub numbers : numbers_of (close_at d k e) f ≡ numbers_of e f
  pub pis : (T : Tree) → close_at d k (pis_over (domains_of e f) T)
      ≡ pis_over (domains_of (close_at d k e) f) (close_at (d + length (numbers_of e f)) k T)

spread_none : (d k : ℕ) (e f : Tree) → AreNone e f → AreNone (close_at d k e) f → Spreads d k e f
spread_none d k e f n m =
    let same : d ≡ d + 0 = omega arith in
    record {
      numbers = m.numbers ∙ sym n.numbers;
      pis = λ T. rw (n.domains, n.numbers, m.domains) (ap (λ x. close_at x k T) same);
    }

spread_both : (d k : ℕ) (A b x g : Tree) → Spreads (suc d) k b g → Spreads d k (lam A b) (app x g)
unfolding close_at
spread_both d k A b x g s =
    let same : suc d + length (numbers_of b g) ≡ d + suc (length (numbers_of b g)) = omega arith in
    record {
      numbers = ap (λ l. number_in x ∷ l) s.numbers;
      pis = λ T. ap (pi (close_at d k A)) (s.pis T ∙ ap (λ y. pis_over (domains_of (close_at (suc d) k b) g) (close_at y k T)) same);
    }

spread_shape : (d k : ℕ) (e f : Tree) → Shape e f → ((A b x g : Tree) → e ≡ lam A b → f ≡ app x g → Spreads (suc d) k b g) → Spreads d k e f
spread_shape d k e f (none p q) h = spread_none d k e f p (q d k)
spread_shape d k e f (both A b x g p q) h = let s = h A b x g p q in rw (p, q) (spread_both d k A b x g s)

spreads : (n d k : ℕ) (e f : Tree) → length (numbers_of e f) ≡ n → Spreads d k e f
spreads zero d k e f h = spread_shape d k e f (shape e f)
    (λ A b x g p q. let z : suc (length (numbers_of b g)) ≡ 0 = rw (p, q) at h in absurd (omega arith))
spreads (suc m) d k e f h = spread_shape d k e f (shape e f)
    (λ A b x g p q. let z : suc (length (numbers_of b g)) ≡ suc m = rw (p, q) at h in spreads m (suc d) k b g (omega (arith, z)))

-- the type of a Local
abbrev pub type_in : Tree → Tree
type_in (local k T) = T
type_in e = e

-- the type of lambdas, after the type T of what stands inside their Locals, closed one after the other
abbrev pub one_by_one : List Tree → Tree → Tree
one_by_one [] T = T
one_by_one (x ∷ xs) T = pi (type_in x) (close (number_in x) (one_by_one xs T))

-- Pis over the own domains of e, that was opened with the Locals in f
abbrev own : Tree → Tree → Tree → Tree
own e f T = pis_over (domains_of e f) (closed_with (numbers_of e f) T)

own_none : (e f T : Tree) → AreNone e f → own e f T ≡ T
own_none e f T n = rw (n.domains, n.numbers) refl

-- the outermost of the lambdas, after those inside it
own_lambda : (A b f T : Tree) (k : ℕ) → loose b ≤ 1 → bound b ≤ k
    → pi A (close k (own (opened b (local k A)) f T)) ≡ own (lam A b) (app (local k A) f) T
own_lambda A b f T k z h =
    let e = opened b (local k A) in
    let same : close_at 0 k e ≡ b = closes 0 k A b z h in
    let s = spreads (length (numbers_of e f)) 0 k e f refl in
    let numbers : numbers_of b f ≡ numbers_of e f = ap (λ t. numbers_of t f) (sym same) ∙ s.numbers in
    let none : 0 + length (numbers_of e f) ≡ length (numbers_of e f) = omega arith in
    ap (pi A) (s.pis (closed_with (numbers_of e f) T)
    ∙ (ap (λ t. pis_over (domains_of t f) (close_at (0 + length (numbers_of e f)) k (closed_with (numbers_of e f) T))) same
    ∙ (ap (λ n. pis_over (domains_of b f) (close_at n k (closed_with (numbers_of e f) T))) none
    ∙ ap (λ l. pis_over (domains_of b f) (close_at (length l) k (closed_with l T))) (sym numbers))))

bound_inside : (A b : Tree) → bound b ≤ bound (lam A b)
unfolding bound
bound_inside A b = omega arith

-- a closed term, opened with Locals
own_closed : (e : Tree) (xs : List Tree) (r T : Tree) → loose e ≡ 0 → OpensTo Lambdas e xs r → one_by_one xs T ≡ own e (ahead xs r) T
own_closed e [] r T z h = rw h (sym (own_none r r T (go (shape r r))))
  where
    go : Shape r r → AreNone r r
    go (both A b x g p q) = let c : lam A b ≡ app x g = sym p ∙ q in absurd cc
    go (none n m) = n
own_closed e (x ∷ xs) r T z (A, b, is, f, h) =
    let k = bound (lam A b) in
    let all : loose (lam A b) ≡ 0 = ap loose (sym is) ∙ z in
    let one : loose b ≤ 1 = omega (arith, all) in
    let less = open_loose 0 (local k A) b refl one in
    let none : loose (opened b (local k A)) ≡ 0 = omega (arith, less) in
    let inside = own_closed (opened b (local k A)) xs r T none (rw f at h) in
    rw (is, f) (ap (λ t. pi A (close k t)) inside ∙ own_lambda A b (ahead xs r) T k one (bound_inside A b))

-- a lambda, which is opened alone where it may not be closed
pub own_type : (A b : Tree) (xs : List Tree) (r T : Tree) → (xs ≡ []) ⊎ (loose b ≤ 1) → OpensTo Lambdas (opened b (fresh Lambdas A b)) xs r
    → one_by_one (fresh Lambdas A b ∷ xs) T ≡ lambdas_type (app (lam A b) (app (fresh Lambdas A b) (ahead xs r))) T
own_type A b [] r T c h =
    let k = bound (lam A b) in
    let n : AreNone b r = subst (AreNone b) h (none_inside 0 (local k A) b) in
    rw (n.domains, n.numbers) refl
own_type A b (x ∷ xs) r T (inl e) h = absurd cc
own_type A b (x ∷ xs) r T (inr one) h =
    let k = bound (lam A b) in
    let less = open_loose 0 (local k A) b refl one in
    let none : loose (opened b (local k A)) ≡ 0 = omega (arith, less) in
    ap (λ t. pi A (close k t)) (own_closed (opened b (local k A)) (x ∷ xs) r T none h)
    ∙ own_lambda A b (ahead (x ∷ xs) r) T k one (bound_inside A b)
