-- The version: reading its first number against the relation that a field is three numbers joined by dots.
use Rattle.std.proofs.Common.{◌≡◌, ℕ, ◌<◌, ◌^◌, ◌==◌, false, List, [], ◌∷◌, ◌++◌, Some, None, refl, sym, ◌∙◌, ap, subst, arith, inl, inr, ◌≢◌}
use Rattle.std.specs.Prelude.{◌⊎◌, All}
use Rattle.std.specs.declared.option.Option.{Option}
use Rattle.std.specs.List.{slice_split}
use Rattle.std.specs.Char.{digit_value}
use Rattle.std.specs.Str.Parse.{AllDigits, IsNumeral, digits_value}
use Rattle.std.proofs.lemmas.Bool.{cases_lt}
use Rattle.std.proofs.lemmas.Bool.Decides.{nat_tests}
use Rattle.std.proofs.lemmas.List.Elements.{All-nil, All-cons}
use Rattle.std.proofs.lemmas.List.Splits.{slice_split_none, slice_split_at, join_with_byte-slice_split}
use Rattle.lk_num.specs.declared.numeral.Nat.{Nat}
use Rattle.lk_num.specs.declared.numeral.Nat.TheVariants as nats
use Rattle.lk_num.specs.Numeral.{nat_from, nat_of}
use Rattle.lk_num.proofs.Numerals.{nat_from-fits, nat_from-wide, nat_of-some}
use Rattle.lk_lines.specs.Spelling.{IsLiteral}
use Rattle.lk_lines.specs.Says.{IsVersion, first_of_three, parts_number, version_of, is_two}
use Rattle.lk_lines.proofs.Numerals.{nat_of-cases}

digit_no_dot : (c : ℕ) → digit_value c < 10 → c ≡ 46 → ⊥
digit_no_dot c lt e = let bad : digit_value 46 < 10 = subst (λ n. digit_value n < 10) e lt in omega arith

no_dots : (ds : List ℕ) → AllDigits 10 ds → All (λ b. (b == 46) ≡ false) ds
no_dots [] h = All-nil (λ b. (b == 46) ≡ false)
no_dots (c ∷ ds) h = All-cons (λ b. (b == 46) ≡ false) c ds (let no : c ≡ 46 → ⊥ = digit_no_dot c h.0 in grind (arith, nat_tests)) (no_dots ds h.1)

pub dots_split : (a b c : List ℕ) → IsNumeral 10 a → IsNumeral 10 b → IsNumeral 10 c → slice_split (λ x. x == 46) (a ++ 46 ∷ (b ++ 46 ∷ c)) ≡ a ∷ b ∷ c ∷ []
dots_split a b c p q r =
    slice_split_at (λ x. x == 46) a 46 (b ++ 46 ∷ c) (no_dots a p.1) refl
    ∙ ap (λ parts. a ∷ parts) (slice_split_at (λ x. x == 46) b 46 c (no_dots b q.1) refl)
    ∙ ap (λ parts. a ∷ b ∷ parts) (slice_split_none (λ x. x == 46) c (no_dots c r.1))

pub version_forward : (fields : List (List ℕ)) (major : ℕ) → IsVersion fields major → version_of fields ≡ Some (nat_from major)
version_forward fields major (a, b, c, q, p, r, s, is) =
    rw (q, dots_split a b c p r s, nat_of-some a (nat_from major) p (ap nat_from is), nat_of-some b _ r refl, nat_of-some c _ s refl) refl

literal_from : (field : List ℕ) (n : Nat) → IsLiteral field n → IsNumeral 10 field × (nat_from (digits_value 10 field) ≡ n)
literal_from field (nats.Fits n) h = (h.numeral, nat_from-fits n _ (sym h.«value») h.small)
literal_from field nats.Wide h = (h.0, nat_from-wide _ h.1)

numeral_from : (field : List ℕ) (n : Nat) → nat_of field ≡ Some n → IsNumeral 10 field × (nat_from (digits_value 10 field) ≡ n)
numeral_from field n e = elim (nat_of-cases field) [
  | inl (m, is, h) ↦ let same : m ≡ n = (let both = is in cc) in let l = literal_from field m h in (l.0, l.1 ∙ same)
  | inr (is, h) ↦ absurd (let both = is in cc)
]

three_lem : (x y z : Option Nat) (n : Nat) → first_of_three x y z ≡ Some n → (p : Nat) × (q : Nat) × (x ≡ Some n) × (y ≡ Some p) × (z ≡ Some q)
three_lem None y z n e = absurd cc
three_lem (Some a) None z n e = absurd cc
three_lem (Some a) (Some b) None n e = absurd cc
three_lem (Some a) (Some b) (Some c) n e = (b, c, e, refl, refl)

parts_back : (field : List ℕ) (parts : List (List ℕ)) (n : Nat) → slice_split (λ b. b == 46) field ≡ parts → parts_number parts ≡ Some n
    → (major : ℕ) × IsVersion (field ∷ []) major × (nat_from major ≡ n)
parts_back field [] n e h = absurd cc
parts_back field (a ∷ []) n e h = absurd cc
parts_back field (a ∷ b ∷ []) n e h = absurd cc
parts_back field (a ∷ b ∷ c ∷ d ∷ more) n e h = absurd cc
parts_back field (a ∷ b ∷ c ∷ []) n e h =
    let (p, q, is_a, is_b, is_c) = three_lem (nat_of a) (nat_of b) (nat_of c) n h in
    let na = numeral_from a n is_a in
    let nb = numeral_from b p is_b in
    let nc = numeral_from c q is_c in
    let joined : field ≡ a ++ 46 ∷ (b ++ 46 ∷ c) = sym (rw e at (join_with_byte-slice_split 46 field)) in
    (digits_value 10 a, (a, b, c, ap (λ f. f ∷ []) joined, na.0, nb.0, nc.0, refl), na.1)

version_back : (fields : List (List ℕ)) (n : Nat) → version_of fields ≡ Some n → (major : ℕ) × IsVersion fields major × (nat_from major ≡ n)
version_back [] n e = absurd cc
version_back (field ∷ []) n e = parts_back field (slice_split (λ b. b == 46) field) n refl e
version_back (field ∷ more ∷ fields) n e = absurd cc

option_cases : {A : Type 0} → (o : Option A) → ((x : A) × (o ≡ Some x)) ⊎ (o ≡ None)
option_cases (Some x) = inl (x, refl)
option_cases None = inr refl

-- fields are a version, whose first number is read, or none
pub version_cases : (fields : List (List ℕ))
    → ((major : ℕ) × IsVersion fields major × (version_of fields ≡ Some (nat_from major))) ⊎ ((version_of fields ≡ None) × ((major : ℕ) → ¬ (IsVersion fields major)))
version_cases fields = elim (option_cases (version_of fields)) [
  | inl (n, e) ↦ let (major, v, is) = version_back fields n e in inl (major, v, e ∙ ap (λ m. Some m) (sym is))
  | inr e ↦ inr (e, λ major v. let some = version_forward fields major v in let both = e in cc)
]

pub is_two-other : (major : ℕ) → major ≢ 2 → is_two (nat_from major) ≡ false
is_two-other major ne = elim (cases_lt major (2 ^ 128)) [
  | inl lt ↦ let other : (major == 2) ≡ false = grind (arith, nat_tests) in rw (nat_from-fits major major refl lt) other
  | inr le ↦ rw (nat_from-wide major le) refl
]

-- a version is no numeral: it holds a dot
dot_lem : (a more : List ℕ) → AllDigits 10 (a ++ 46 ∷ more) → ⊥
dot_lem [] more h = digit_no_dot 46 h.0 refl
dot_lem (c ∷ a) more h = dot_lem a more h.1

pub version_no_numeral : (a more : List ℕ) → IsNumeral 10 (a ++ 46 ∷ more) → ⊥
version_no_numeral a more h = dot_lem a more h.1
