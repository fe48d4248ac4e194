-- Each choice of ones and zeros is the digits of a number.
use Rattle.std.proofs.Common.{ℕ, ◌≡◌, ◌<◌, ◌+◌, ◌*◌, ◌%◌, ◌/◌, List, [], ◌∷◌, length, refl, ◌∙◌, ap, arith, mod-eq_of_lt}
use native.Mathlib.Nat.{add-mul-mod_self_left, add-mul-div_left, div-eq_of_lt}
use Rattle.lk_level_order.specs.Values.{digits}

abbrev pub number_of : List ℕ → ℕ
number_of [] = 0
number_of (b ∷ bs) = b + 2 * number_of bs

abbrev pub AreDigits : List ℕ → Type 0
AreDigits [] = Unit {0}
AreDigits (b ∷ bs) = (b < 2) × AreDigits bs

pub last_digit : (b r : ℕ) → b < 2 → (b + 2 * r) % 2 ≡ b
last_digit b r h = add-mul-mod_self_left b 2 r ∙ mod-eq_of_lt h

pub other_digits : (b r : ℕ) → b < 2 → (b + 2 * r) / 2 ≡ r
other_digits b r h = let e : (b + 2 * r) / 2 ≡ b / 2 + r = add-mul-div_left b r {y = 2} (omega arith) in let z : b / 2 ≡ 0 = div-eq_of_lt h in omega arith

pub digits_are : (bs : List ℕ) → AreDigits bs → digits (length bs) (number_of bs) ≡ bs
digits_are [] h = refl
digits_are (b ∷ bs) h = rw (last_digit b (number_of bs) h.0, other_digits b (number_of bs) h.0) (ap (λ (xs : List ℕ). b ∷ xs) (digits_are bs h.1))
