-- The test for numerals against std's fact, and what decides the number that is read.
use Rattle.std.proofs.Common.{◌≡◌, ℕ, ◌<◌, ◌≤◌, ◌^◌, Bool, true, false, List, length, refl, sym, nat_lt, arith, Some, None}
use Rattle.std.specs.Prelude.{◌&&◌, ◌↔◌, IsSome, IfSome}
use Rattle.std.specs.declared.option.Option.{Option}
use Rattle.std.proofs.lemmas.Bool.Decides.{nat_tests}
use Rattle.std.specs.Str.{all_ascii_digits}
use Rattle.std.specs.Str.Parse.{IsNumeral, digits_value}
use Rattle.std.proofs.lemmas.Str.Parse.{tells_all_ascii_digits, numerals_by_value, IsNumeralModel}
use Rattle.lk_num.specs.declared.numeral.Nat.{Nat}
use Rattle.lk_num.specs.declared.numeral.Nat.TheVariants.{Fits, Wide}
use Rattle.lk_num.specs.Numeral.{IsNat, nat_from, is_numeral, nat_of}

model : IsNumeralModel (λ ds. all_ascii_digits ds ≡ true) (digits_value 10)
model = numerals_by_value _ tells_all_ascii_digits

and_true : (a b : Bool) → a ≡ true → b ≡ true → (a && b) ≡ true
and_true true b p q = q
and_true false b p q = p

and_left : (a b : Bool) → (a && b) ≡ true → a ≡ true
and_left true b p = refl
and_left false b p = p

and_right : (a b : Bool) → (a && b) ≡ true → b ≡ true
and_right true b p = p
and_right false b p = absurd cc

pub false_of : (b : Bool) → (b ≡ true → ⊥) → b ≡ false
false_of true h = absurd (h refl)
false_of false h = refl

pub is_numeral-from_IsNumeral : (field : List ℕ) → IsNumeral 10 field → is_numeral field ≡ true
is_numeral-from_IsNumeral field h = and_true _ _ (let lt : 0 < length field = h.0 in grind (arith, nat_tests)) (model.from field h.1)

pub IsNumeral-from_is_numeral : (field : List ℕ) → is_numeral field ≡ true → IsNumeral 10 field
IsNumeral-from_is_numeral field e =
    let some : nat_lt 0 (length field) ≡ true = and_left (nat_lt 0 (length field)) (all_ascii_digits field) e in
    (grind (arith, nat_tests), model.to field (and_right (nat_lt 0 (length field)) (all_ascii_digits field) e))

pub is_numeral-none : (field : List ℕ) → (IsNumeral 10 field → ⊥) → is_numeral field ≡ false
is_numeral-none field h = false_of _ (λ t. h (IsNumeral-from_is_numeral field t))

-- a number that fits is in range
abbrev pub IsInNat : Nat → Type 0
IsInNat (Fits n) = n < 2 ^ 128
IsInNat Wide = Unit {0}

pub nat_from-fits : (n value : ℕ) → n ≡ value → n < 2 ^ 128 → nat_from value ≡ Fits n
nat_from-fits n value e lt = let t : nat_lt value (2 ^ 128) ≡ true = grind (arith, nat_tests) in rw (t, e) refl

pub nat_from-wide : (value : ℕ) → 2 ^ 128 ≤ value → nat_from value ≡ Wide
nat_from-wide value le = let t : nat_lt value (2 ^ 128) ≡ false = grind (arith, nat_tests) in rw t refl

pub nat_of-none : (field : List ℕ) → (IsNumeral 10 field → ⊥) → nat_of field ≡ None
nat_of-none field h = rw (is_numeral-none field h) refl

pub nat_of-some : (field : List ℕ) (n : Nat) → IsNumeral 10 field → nat_from (digits_value 10 field) ≡ n → nat_of field ≡ Some n
nat_of-some field n h e = rw (is_numeral-from_IsNumeral field h, e) refl

pub nat_of-by : (field : List ℕ) (r : Option Nat) → (IsSome r ↔ IsNumeral 10 field) → IfSome r (λ n. IsNat n (digits_value 10 field)) → IfSome r IsInNat → r ≡ nat_of field
nat_of-by field None some value fits = sym (nat_of-none field (λ h. absurd (let no = some.1 h in cc)))
nat_of-by field (Some (Fits n)) some value fits = sym (nat_of-some field (Fits n) (some.0 refl) (nat_from-fits n _ value fits))
nat_of-by field (Some Wide) some value fits = sym (nat_of-some field Wide (some.0 refl) (nat_from-wide _ value))
