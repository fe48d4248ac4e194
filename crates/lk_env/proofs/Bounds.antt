-- Which trees are closed, by the bounds that a store has of each.
use Rattle.std.proofs.Common.{ℕ, suc, ◌≡◌, ◌≤◌, Bool, true, false, ◌&&◌, nat_eq, nat_lt, refl, sym, arith}
use Rattle.std.proofs.lemmas.Bool.Decides.{nat_tests}
use Rattle.lk_tree.specs.Tree.{Tree, var, sort, const, app, lam, pi, let_in, proj, lit, wide, str, local}
use Rattle.lk_tree.specs.Bind.{bound}
use Rattle.lk_tree.specs.Loose.{loose}
use Rattle.lk_tree.specs.Scan.{is_bound}
use Rattle.lk_tree.proofs.Scans.{both_true, and_true}

below : (i d : ℕ) → suc i ≤ d → nat_lt i d ≡ true
below i d h = grind (arith, nat_tests)

above : (i d : ℕ) → nat_lt i d ≡ true → suc i ≤ d
above i d h = grind (arith, nat_tests)

bound_if : (d : ℕ) (e : Tree) → loose e ≤ d → bound e ≤ 0 → is_bound d e ≡ true
unfolding bound
bound_if d (var i) h k = below i d h
bound_if d (sort l) h k = refl
bound_if d (const c ls) h k = refl
bound_if d (app f a) h k = and_true (is_bound d f) (is_bound d a) (bound_if d f (omega arith) (omega arith)) (bound_if d a (omega arith) (omega arith))
bound_if d (lam A b) h k = and_true (is_bound d A) (is_bound (suc d) b) (bound_if d A (omega arith) (omega arith)) (bound_if (suc d) b (omega arith) (omega arith))
bound_if d (pi A B) h k = and_true (is_bound d A) (is_bound (suc d) B) (bound_if d A (omega arith) (omega arith)) (bound_if (suc d) B (omega arith) (omega arith))
bound_if d (let_in A v b) h k =
    and_true (is_bound d A) (is_bound d v && is_bound (suc d) b) (bound_if d A (omega arith) (omega arith))
    (and_true (is_bound d v) (is_bound (suc d) b) (bound_if d v (omega arith) (omega arith)) (bound_if (suc d) b (omega arith) (omega arith)))
bound_if d (proj S i s) h k = bound_if d s h k
bound_if d (lit n) h k = refl
bound_if d wide h k = refl
bound_if d (str s) h k = refl
bound_if d (local n T) h k = absurd (omega arith)

only_bound : (d : ℕ) (e : Tree) → is_bound d e ≡ true → (loose e ≤ d) × (bound e ≤ 0)
unfolding bound
only_bound d (var i) h = (above i d h, omega arith)
only_bound d (sort l) h = (omega arith, omega arith)
only_bound d (const c ls) h = (omega arith, omega arith)
only_bound d (app f a) h =
    let x = both_true (is_bound d f) (is_bound d a) h in
    let p = only_bound d f x.0 in
    let q = only_bound d a x.1 in
    (omega arith, omega arith)
only_bound d (lam A b) h =
    let x = both_true (is_bound d A) (is_bound (suc d) b) h in
    let p = only_bound d A x.0 in
    let q = only_bound (suc d) b x.1 in
    (omega arith, omega arith)
only_bound d (pi A B) h =
    let x = both_true (is_bound d A) (is_bound (suc d) B) h in
    let p = only_bound d A x.0 in
    let q = only_bound (suc d) B x.1 in
    (omega arith, omega arith)
only_bound d (let_in A v b) h =
    let x = both_true (is_bound d A) (is_bound d v && is_bound (suc d) b) h in
    let y = both_true (is_bound d v) (is_bound (suc d) b) x.1 in
    let p = only_bound d A x.0 in
    let q = only_bound d v y.0 in
    let r = only_bound (suc d) b y.1 in
    (omega arith, omega arith)
only_bound d (proj S i s) h = only_bound d s h
only_bound d (lit n) h = (omega arith, omega arith)
only_bound d wide h = (omega arith, omega arith)
only_bound d (str s) h = (omega arith, omega arith)
only_bound d (local n T) h = absurd cc

pub same_test : (a b : Bool) → (a ≡ true → b ≡ true) → (b ≡ true → a ≡ true) → a ≡ b
same_test true true h k = refl
same_test false false h k = refl
same_test true false h k = sym (h refl)
same_test false true h k = k refl

both_zero : (m n : ℕ) → (nat_eq m 0 && nat_eq n 0) ≡ true → (m ≤ 0) × (n ≤ 0)
both_zero m n h = let x = both_true (nat_eq m 0) (nat_eq n 0) h in let p : nat_eq m 0 ≡ true = x.0 in let q : nat_eq n 0 ≡ true = x.1 in (grind (arith, nat_tests), grind (arith, nat_tests))

zero_is : (n : ℕ) → n ≤ 0 → nat_eq n 0 ≡ true
zero_is n h = grind (arith, nat_tests)

-- a tree is closed where both bounds are 0
pub closed_is : (e : Tree) → is_bound 0 e ≡ (nat_eq (loose e) 0 && nat_eq (bound e) 0)
closed_is e =
    same_test (is_bound 0 e) (nat_eq (loose e) 0 && nat_eq (bound e) 0)
    (λ h. let p = only_bound 0 e h in and_true (nat_eq (loose e) 0) (nat_eq (bound e) 0) (zero_is (loose e) p.0) (zero_is (bound e) p.1))
    (λ h. let p = both_zero (loose e) (bound e) h in bound_if 0 e p.0 p.1)
