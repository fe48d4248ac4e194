-- A tree is closed and well scoped where no variable is loose, no literal is wide, and each Local is fit.
use Rattle.std.proofs.Common.{◌≡◌, ℕ, suc, ◌-◌, Bool, true, false, ◌&&◌, nat_le, max, refl, sym, ap, ◌∙◌, arith}
use Rattle.std.specs.Prelude.{◌||◌, not}
use Rattle.std.proofs.lemmas.Bool.Decides.{nat_tests}
use Rattle.lk_tree.specs.Tree.{Tree, var, sort, const, app, lam, pi, let_in, proj, lit, wide, str, local}
use Rattle.lk_tree.specs.Bind.{bound}
use Rattle.lk_tree.specs.Loose.{loose}
use Rattle.lk_tree.specs.Scan.{is_narrow}
use Rattle.lk_written.specs.Premises.{is_fine}
use Rattle.lk_fine.specs.Locals.{has_unfit}

-- what is asked of a tree under d binders
abbrev asked : ℕ → Tree → Bool
asked d t = nat_le (loose t) d && (is_narrow t && not (has_unfit t))

-- the same of two parts
both : (p q r s t u : Bool) → ((p && (q && not r)) && (s && (t && not u))) ≡ ((p && s) && ((q && t) && not (r || u)))
both false q r s t u = refl
both true false r false t u = refl
both true false r true t u = refl
both true true true false t u = refl
both true true true true false u = refl
both true true true true true u = refl
both true true false false t u = refl
both true true false true false u = refl
both true true false true true u = refl

le_max : (m n d : ℕ) → (nat_le m d && nat_le n d) ≡ nat_le (max m n) d
le_max m n d = grind (arith, nat_tests)

le_under : (m n d : ℕ) → (nat_le m d && nat_le n (suc d)) ≡ nat_le (max m (n - 1)) d
le_under m n d = grind (arith, nat_tests)

le_three : (l m n d : ℕ) → (nat_le l d && (nat_le m d && nat_le n (suc d))) ≡ nat_le (max l (max m (n - 1))) d
le_three l m n d = grind (arith, nat_tests)

-- two parts, of which the second may stand under one binder more
pair : (x y : Bool) (p q r s t u v : Bool) → x ≡ (p && (q && not r)) → y ≡ (s && (t && not u)) → (p && s) ≡ v → (x && y) ≡ (v && ((q && t) && not (r || u)))
pair x y p q r s t u v h k e =
    ap (λ z. z && y) h ∙ ap (λ z. (p && (q && not r)) && z) k ∙ both p q r s t u ∙ ap (λ z. z && ((q && t) && not (r || u))) e

-- a Local is fit, and its type is fine
fit : (l n k r : Bool) → ((l && (n && not r)) && k) ≡ (n && not (not (l && k) || r))
fit l n k r = grind (arith, nat_tests)

true_is : (n : ℕ) → nat_le 0 n ≡ true
true_is n = grind (arith, nat_tests)

pub fine_by : (d : ℕ) (t : Tree) → is_fine d t ≡ (nat_le (loose t) d && (is_narrow t && not (has_unfit t)))
fine_by d (var i) = grind (arith, nat_tests)
fine_by d (sort l) = grind (arith, nat_tests)
fine_by d (const c ls) = grind (arith, nat_tests)
fine_by d (app f a) =
    pair (is_fine d f) (is_fine d a) (nat_le (loose f) d) (is_narrow f) (has_unfit f) (nat_le (loose a) d) (is_narrow a) (has_unfit a) _
    (fine_by d f) (fine_by d a) (le_max (loose f) (loose a) d)
fine_by d (lam A b) =
    pair (is_fine d A) (is_fine (suc d) b) (nat_le (loose A) d) (is_narrow A) (has_unfit A) (nat_le (loose b) (suc d)) (is_narrow b) (has_unfit b) _
    (fine_by d A) (fine_by (suc d) b) (le_under (loose A) (loose b) d)
fine_by d (pi A b) =
    pair (is_fine d A) (is_fine (suc d) b) (nat_le (loose A) d) (is_narrow A) (has_unfit A) (nat_le (loose b) (suc d)) (is_narrow b) (has_unfit b) _
    (fine_by d A) (fine_by (suc d) b) (le_under (loose A) (loose b) d)
fine_by d (let_in A v b) =
    pair (is_fine d A) (is_fine d v && is_fine (suc d) b) (nat_le (loose A) d) (is_narrow A) (has_unfit A)
    (nat_le (loose v) d && nat_le (loose b) (suc d)) (is_narrow v && is_narrow b) (has_unfit v || has_unfit b) _
    (fine_by d A)
    (pair (is_fine d v) (is_fine (suc d) b) (nat_le (loose v) d) (is_narrow v) (has_unfit v) (nat_le (loose b) (suc d)) (is_narrow b) (has_unfit b) _
    (fine_by d v) (fine_by (suc d) b) refl)
    (le_three (loose A) (loose v) (loose b) d)
fine_by d (proj S i s) = fine_by d s
fine_by d (lit n) = grind (arith, nat_tests)
fine_by d wide = grind (arith, nat_tests)
fine_by d (str s) = grind (arith, nat_tests)
fine_by d (local k T) =
    ap (λ x. x && nat_le (bound T) k) (fine_by 0 T)
    ∙ fit (nat_le (loose T) 0) (is_narrow T) (nat_le (bound T) k) (has_unfit T)
    ∙ sym (ap (λ x. x && (is_narrow T && not (has_unfit (local k T)))) (true_is d))
