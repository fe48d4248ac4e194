-- Where no variable but the outermost one may be loose, the bound of loose variables says whether
-- that one occurs.
use Rattle.std.proofs.Common.{◌≡◌, ℕ, suc, ◌-◌, ◌≤◌, max, Bool, true, false, ◌||◌, nat_eq, refl}
use Rattle.std.proofs.Common.{arith}
use Rattle.std.proofs.lemmas.Bool.Decides.{nat_tests}
use Rattle.lk_tree.specs.Tree.{Tree, var, sort, const, app, lam, pi, let_in, proj, lit, wide, str}
use Rattle.lk_tree.specs.Tree.{local}
use Rattle.lk_tree.specs.Bind.{has_var}
use Rattle.lk_tree.specs.Loose.{loose}

pub neither : (p q : Bool) → p ≡ false → q ≡ false → (p || q) ≡ false
neither true q h k = absurd (cc)
neither false q h k = k

-- one of two whose greater bound is d
either : (m n d : ℕ) (p q : Bool) → (m ≡ suc d → p ≡ true) → (n ≡ suc d → q ≡ true)
    → max m n ≡ suc d → (p || q) ≡ true
either m n d p q f g e = go (nat_eq m (suc d)) refl
  where
    left : (p q : Bool) → p ≡ true → (p || q) ≡ true
    left true q h = refl
    left false q h = absurd (cc)

    right : (p q : Bool) → q ≡ true → (p || q) ≡ true
    right true q h = refl
    right false q h = h

    go : (b : Bool) → nat_eq m (suc d) ≡ b → (p || q) ≡ true
    go true h = left p q (f (grind (arith, nat_tests)))
    go false h = right p q (g (grind (arith, nat_tests)))

pub none_occurs : (d : ℕ) (e : Tree) → loose e ≤ d → has_var d e ≡ false
none_occurs d (var i) l = grind (arith, nat_tests)
none_occurs d (sort u) l = refl
none_occurs d (const c ls) l = refl
none_occurs d (app f a) l = neither (has_var d f) (has_var d a)
    (none_occurs d f (omega arith)) (none_occurs d a (omega arith))
none_occurs d (lam A b) l = neither (has_var d A) (has_var (suc d) b)
    (none_occurs d A (omega arith)) (none_occurs (suc d) b (omega arith))
none_occurs d (pi A b) l = neither (has_var d A) (has_var (suc d) b)
    (none_occurs d A (omega arith)) (none_occurs (suc d) b (omega arith))
none_occurs d (let_in A v b) l = neither (has_var d A) (has_var d v || has_var (suc d) b)
    (none_occurs d A (omega arith))
    (neither (has_var d v) (has_var (suc d) b)
    (none_occurs d v (omega arith)) (none_occurs (suc d) b (omega arith)))
none_occurs d (proj S i s) l = none_occurs d s l
none_occurs d (lit n) l = refl
none_occurs d wide l = refl
none_occurs d (str s) l = refl
none_occurs d (local k T) l = refl

pub outermost_occurs : (d : ℕ) (e : Tree) → loose e ≡ suc d → has_var d e ≡ true
outermost_occurs d (var i) l = grind (arith, nat_tests)
outermost_occurs d (sort u) l = absurd (omega arith)
outermost_occurs d (const c ls) l = absurd (omega arith)
outermost_occurs d (app f a) l = either (loose f) (loose a) d (has_var d f) (has_var d a)
    (λ h. outermost_occurs d f h) (λ h. outermost_occurs d a h) l
outermost_occurs d (lam A b) l =
    either (loose A) (loose b - 1) d (has_var d A) (has_var (suc d) b)
    (λ h. outermost_occurs d A h) (λ h. outermost_occurs (suc d) b (omega arith)) l
outermost_occurs d (pi A b) l =
    either (loose A) (loose b - 1) d (has_var d A) (has_var (suc d) b)
    (λ h. outermost_occurs d A h) (λ h. outermost_occurs (suc d) b (omega arith)) l
outermost_occurs d (let_in A v b) l =
    either (loose A) (max (loose v) (loose b - 1)) d (has_var d A)
    (has_var d v || has_var (suc d) b) (λ h. outermost_occurs d A h)
    (λ k. either (loose v) (loose b - 1) d (has_var d v) (has_var (suc d) b)
    (λ h. outermost_occurs d v h) (λ h. outermost_occurs (suc d) b (omega arith)) k) l
outermost_occurs d (proj S i s) l = outermost_occurs d s l
outermost_occurs d (lit n) l = absurd (omega arith)
outermost_occurs d wide l = absurd (omega arith)
outermost_occurs d (str s) l = absurd (omega arith)
outermost_occurs d (local k T) l = absurd (omega arith)
