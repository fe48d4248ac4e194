-- Places put where there are none.
use Rattle.std.proofs.Common.{◌≡◌, ℕ, zero, suc, ◌+◌, ◌<◌, Bool, true, false, List, [], ◌∷◌, ◌++◌, length, map, take, get_or, slice_index_or, slice_set, Option, Some, None, refl, ap, sym, ◌∙◌, add-one, arith}
use Rattle.std.specs.Prelude.{Vec}
use Rattle.std.specs.declared.alloc.Global.{Global}
use Rattle.std.specs.Prelude.{◌||◌, nat_eq, if◌then◌else◌}
use Rattle.std.proofs.Math.Seq.{take-suc}
use Rattle.lk_members.specs.Lines.{has, or_next}
use Rattle.lk_members.specs.Taking.{with_place}

has_push : (xs : List ℕ) (y q : ℕ) → has nat_eq (xs ++ y ∷ []) q ≡ (has nat_eq xs q || nat_eq y q)
has_push [] y q = or_false (nat_eq y q)
  where
    or_false : (b : Bool) → (b || false) ≡ b
    or_false true = refl
    or_false false = refl
has_push (x ∷ xs) y q = ap (λ b. nat_eq x q || b) (has_push xs y q) ∙ or_assoc (nat_eq x q) (has nat_eq xs q) (nat_eq y q)
  where
    or_assoc : (a b c : Bool) → (a || (b || c)) ≡ ((a || b) || c)
    or_assoc true b c = refl
    or_assoc false b c = refl

pub has_take : (xs : List ℕ) (i q : ℕ) → i < length xs → has nat_eq (take (i + 1) xs) q ≡ (has nat_eq (take i xs) q || nat_eq (get_or xs i 0) q)
has_take xs i q h = ap (λ k. has nat_eq (take k xs) q) (add-one i) ∙ ap (λ l. has nat_eq l q) (take-suc xs i 0 h) ∙ has_push (take i xs) (get_or xs i 0) q

next_twice : (o : Option ℕ) (a b : Bool) (p : ℕ) → or_next (or_next o (if a then Some p else None)) (if b then Some p else None) ≡ or_next o (if a || b then Some p else None)
next_twice (Some x) a b p = refl
next_twice None true b p = refl
next_twice None false b p = refl

pub placed_more : (start now new : Option ℕ) (xs : List ℕ) (i q p : ℕ) → i < length xs → now ≡ or_next start (if has nat_eq (take i xs) q then Some p else None)
    → new ≡ or_next now (if nat_eq (get_or xs i 0) q then Some p else None) → new ≡ or_next start (if has nat_eq (take (i + 1) xs) q then Some p else None)
placed_more start now new xs i q p h was is =
    is ∙ ap (λ o. or_next o (if nat_eq (get_or xs i 0) q then Some p else None)) was
    ∙ next_twice start (has nat_eq (take i xs) q) (nat_eq (get_or xs i 0) q) p
    ∙ ap (λ (b : Bool). or_next start (if b then Some p else None)) (sym (has_take xs i q h))

-- the groups with one of them put back
pub place_set : (gs : List (Vec ℕ Global)) (k i : ℕ) (v d : Vec ℕ Global) → k < length gs → v.items ≡ (slice_index_or gs k d).items ++ i ∷ [] → map (λ g. g.items) (slice_set gs k v) ≡ with_place (map (λ g. g.items) gs) k i
place_set [] k i v d h e = absurd (omega arith)
place_set (g ∷ gs) zero i v d h e = ap (λ x. x ∷ map (λ g. g.items) gs) e
place_set (g ∷ gs) (suc k) i v d h e = ap (λ xs. g.items ∷ xs) (place_set gs k i v d (omega arith) e)
