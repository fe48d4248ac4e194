-- Fields of decimal numbers and words, and the values that they spell where these are due.
use Rattle.std.proofs.Common.{◌≡◌, ℕ, ◌<◌, ◌≤◌, ◌^◌, ◌==◌, Bool, true, false, List, [], ◌∷◌, ◌++◌}
use Rattle.std.proofs.Common.{length, map, refl, sym, ap, ◌∙◌, subst, arith, inl, inr}
use Rattle.std.specs.Prelude.{decimal, codes, IsUtf8}
use Rattle.std.specs.Char.{digit_value}
use Rattle.std.specs.Str.Parse.{AllDigits, IsNumeral}
use Rattle.std.proofs.lemmas.Bool.Decides.{nat_tests}
use Rattle.std.proofs.lemmas.Fmt.{decimal_is_IsNumeral_wide, decimal_digit}
use Rattle.lk_num.specs.declared.numeral.Nat.{Nat}
use Rattle.lk_token.specs.Hex.{ArePairs}
use Rattle.lk_lines.specs.declared.dues.Due.{Due}
use Rattle.lk_lines.specs.declared.dues.Due.TheVariants as due
use Rattle.lk_lines.specs.declared.dues.Numbering.{Numbering}
use Rattle.lk_lines.specs.declared.line.BinderInfo.TheVariants.{Default}
use Rattle.lk_lines.specs.declared.line.ReducibilityHint.TheVariants as hints
use Rattle.lk_lines.specs.Values.{Value}
use Rattle.lk_lines.specs.Values as value
use Rattle.lk_lines.specs.Spelling.{Numbers, AreNumbers, IsLiteral, flag_word, SpellsDues}
use Rattle.lk_trim.specs.Written.{fields}
use Rattle.lk_trim.specs.Units.{k_field}
use Rattle.lk_readback.specs.Statable.{IsSmall}
use Rattle.lk_readback.proofs.Joined.{is_plain, IsField, AreFields, spaced, spaced-append}

-- Decimal numbers.
plain_lem : (c : ℕ) (bytes : List ℕ) → digit_value c < 10 → is_plain bytes ≡ true → (s : Bool)
    → (c == 32) ≡ s
    → (t : Bool) → (c == 10) ≡ t → is_plain (c ∷ bytes) ≡ true
plain_lem c bytes lt h true e t f =
    let is : c ≡ 32 = grind (arith, nat_tests) in
    absurd (let bad : digit_value 32 < 10 = subst (λ n. digit_value n < 10) is lt in omega arith)
plain_lem c bytes lt h false e true f =
    let is : c ≡ 10 = grind (arith, nat_tests) in
    absurd (let bad : digit_value 10 < 10 = subst (λ n. digit_value n < 10) is lt in omega arith)
plain_lem c bytes lt h false e false f = rw (e, f) h

digits_plain : (bytes : List ℕ) → AllDigits 10 bytes → is_plain bytes ≡ true
digits_plain [] h = refl
digits_plain (c ∷ bytes) h =
    plain_lem c bytes h.0 (digits_plain bytes h.1) (c == 32) refl (c == 10) refl

pub numeral_field : (field : List ℕ) → IsNumeral 10 field → IsField field
numeral_field field h = record { some = h.0; plain = digits_plain field h.1 }

pub decimal_numbers : (limit n : ℕ) → limit ≤ 2 ^ 128 → n < limit → Numbers limit (decimal n) n
decimal_numbers limit n le lt =
    let wide : n < 10 ^ 64 = omega arith in
    let h = decimal_is_IsNumeral_wide n wide in
    record { numeral = h.0; «value» = h.1; small = lt }

pub decimal_field : (n : ℕ) → n < 2 ^ 128 → IsField (decimal n)
decimal_field n lt =
    let wide : n < 10 ^ 64 = omega arith in
    numeral_field (decimal n) (decimal_is_IsNumeral_wide n wide).0

pub small_field : (n : ℕ) → IsSmall n → IsField (decimal n)
small_field n lt = decimal_field n (omega arith)

pub small_numbers : (n : ℕ) → IsSmall n → Numbers (2 ^ 32) (decimal n) n
small_numbers n lt = decimal_numbers (2 ^ 32) n (omega arith) lt

abbrev pub AreSmall : List ℕ → Type 0
AreSmall [] = Unit {0}
AreSmall (n ∷ ns) = IsSmall n × AreSmall ns

-- a field for each number
abbrev pub numerals : List ℕ → List (List ℕ)
numerals ns = map decimal ns

pub spaced_numerals : (ns : List ℕ) → spaced (numerals ns) ≡ fields ns
spaced_numerals [] = refl
spaced_numerals (n ∷ ns) = ap (λ bytes. 32 ∷ (decimal n ++ bytes)) (spaced_numerals ns)

pub numerals_numbers : (ns : List ℕ) → AreSmall ns → AreNumbers (2 ^ 32) (numerals ns) ns
numerals_numbers [] h = tt
numerals_numbers (n ∷ ns) h = (small_numbers n h.0, numerals_numbers ns h.1)

pub numerals_fields : (ns : List ℕ) → AreSmall ns → AreFields (numerals ns)
numerals_fields [] h = tt
numerals_fields (n ∷ ns) h = (small_field n h.0, numerals_fields ns h.1)

fields_append : (xs ys : List (List ℕ)) → AreFields xs → AreFields ys → AreFields (xs ++ ys)
fields_append [] ys p q = q
fields_append (x ∷ xs) ys p q = (p.0, fields_append xs ys p.1 q)

-- The fields may stand in a line, and spell the values where these are due.
pub record AreSpelled (dues : List Due) (text : List ℕ) (line : List (List ℕ))
    (values : List Value) : Type 0 where
  pub spell : SpellsDues (2 ^ 32) dues text line values
  pub fine : AreFields line

pub nothing_due : (text : List ℕ) → AreSpelled [] text [] []
nothing_due text = record { spell = (refl, refl); fine = tt }

pub known : {k : Numbering} {dues : List Due} {text : List ℕ} {rest : List (List ℕ)}
    {more : List Value}
    → (n : ℕ) → IsSmall n → AreSpelled dues text rest more
    → AreSpelled (due.Known k ∷ dues) text (decimal n ∷ rest) (value.Number n ∷ more)
known {rest} {more} n small h = record {
  spell = (
    value.Number n,
    rest,
    more,
    refl,
    (n, refl, (decimal n, refl, small_numbers n small)),
    h.spell,
  );
  fine = (small_field n small, h.fine);
}

pub plain_number : {dues : List Due} {text : List ℕ} {rest : List (List ℕ)} {more : List Value}
    → (n : ℕ) → IsSmall n → AreSpelled dues text rest more
    → AreSpelled (due.Number ∷ dues) text (decimal n ∷ rest) (value.Number n ∷ more)
plain_number {rest} {more} n small h = record {
  spell = (
    value.Number n,
    rest,
    more,
    refl,
    (n, refl, (decimal n, refl, small_numbers n small)),
    h.spell,
  );
  fine = (small_field n small, h.fine);
}

pub long_number : {dues : List Due} {text : List ℕ} {rest : List (List ℕ)} {more : List Value}
    → (n : ℕ) → n < 2 ^ 64 → AreSpelled dues text rest more
    → AreSpelled (due.Long ∷ dues) text (decimal n ∷ rest) (value.Number n ∷ more)
long_number {rest} {more} n lt h = record {
  spell = (
    value.Number n,
    rest,
    more,
    refl,
    (n, refl, (decimal n, refl, decimal_numbers (2 ^ 64) n (omega arith) lt)),
    h.spell,
  );
  fine = (decimal_field n (omega arith), h.fine);
}

pub literal : {dues : List Due} {text : List ℕ} {rest : List (List ℕ)} {more : List Value}
    → (field : List ℕ) (n : Nat) → IsField field → IsLiteral field n
    → AreSpelled dues text rest more
    → AreSpelled (due.Literal ∷ dues) text (field ∷ rest) (value.Literal n ∷ more)
literal {rest} {more} field n is lit h = record {
  spell = (value.Literal n, rest, more, refl, (field, n, refl, refl, lit), h.spell);
  fine = (is, h.fine);
}

pub default_info : {dues : List Due} {text : List ℕ} {rest : List (List ℕ)} {more : List Value}
    → AreSpelled dues text rest more
    → AreSpelled (due.Info ∷ dues) text (codes "#BD" ∷ rest) (value.OfInfo Default ∷ more)
default_info {rest} {more} h = record {
  spell = (value.OfInfo Default, rest, more, refl, (Default, refl, refl), h.spell);
  fine = (record { some = omega arith; plain = refl }, h.fine);
}

pub opaque_hint_due : {dues : List Due} {text : List ℕ} {rest : List (List ℕ)} {more : List Value}
    → AreSpelled dues text rest more
    → AreSpelled (due.Hint ∷ dues) text (codes "O" ∷ rest) (value.OfHint hints.Opaque ∷ more)
opaque_hint_due {rest} {more} h = record {
  spell = (value.OfHint hints.Opaque, rest, more, refl, inl (refl, refl), h.spell);
  fine = (record { some = omega arith; plain = refl }, h.fine);
}

pub abbreviation_due : {dues : List Due} {text : List ℕ} {rest : List (List ℕ)} {more : List Value}
    → AreSpelled dues text rest more
    → AreSpelled (due.Hint ∷ dues) text (codes "A" ∷ rest) (value.OfHint hints.Abbreviation ∷ more)
abbreviation_due {rest} {more} h = record {
  spell = (value.OfHint hints.Abbreviation, rest, more, refl, inr (inl (refl, refl)), h.spell);
  fine = (record { some = omega arith; plain = refl }, h.fine);
}

pub regular_due : {dues : List Due} {text : List ℕ} {rest : List (List ℕ)} {more : List Value}
    → (n : ℕ) → IsSmall n → AreSpelled dues text rest more
    → AreSpelled (due.Hint ∷ dues) text (codes "R" ∷ decimal n ∷ rest)
    (value.OfHint (hints.Regular n) ∷ more)
regular_due {rest} {more} n small h = record {
  spell = (
    value.OfHint (hints.Regular n),
    rest,
    more,
    refl,
    inr (inr (n, refl, decimal n ∷ rest, refl, (decimal n, refl, small_numbers n small))),
    h.spell,
  );
  fine = (record { some = omega arith; plain = refl }, (small_field n small, h.fine));
}

flag_field : (b : Bool) → IsField (flag_word b)
flag_field false = record { some = omega arith; plain = refl }
flag_field true = record { some = omega arith; plain = refl }

pub flag_due : {dues : List Due} {text : List ℕ} {rest : List (List ℕ)} {more : List Value}
    → (b : Bool) → AreSpelled dues text rest more
    → AreSpelled (due.Flag ∷ dues) text (flag_word b ∷ rest) (value.Flag b ∷ more)
flag_due {rest} {more} b h = record {
  spell = (value.Flag b, rest, more, refl, (b, refl, refl), h.spell);
  fine = (flag_field b, h.fine);
}

pub counted_due : {k : Numbering} {dues : List Due} {text : List ℕ} {rest : List (List ℕ)}
    {more : List Value}
    → (ns : List ℕ) → IsSmall (length ns) → AreSmall ns → AreSpelled dues text rest more
    → AreSpelled (due.Counted k ∷ dues) text (decimal (length ns) ∷ (numerals ns ++ rest))
    (value.Numbers ns ∷ more)
counted_due {rest} {more} ns few small h = record {
  spell = (
    value.Numbers ns,
    rest,
    more,
    refl,
    (
      ns,
      refl,
      numerals ns ++ rest,
      numerals ns,
      (decimal (length ns), refl, small_numbers (length ns) few),
      refl,
      numerals_numbers ns small,
    ),
    h.spell,
  );
  fine = (
    small_field (length ns) few,
    fields_append (numerals ns) rest
        (numerals_fields ns small) h.fine,
  );
}

pub rest_due : {k : Numbering} {text : List ℕ} → (ns : List ℕ) → AreSmall ns
    → AreSpelled (due.Rest k ∷ []) text (numerals ns) (value.Numbers ns ∷ [])
rest_due ns small = record {
  spell = (
    value.Numbers ns,
    [],
    [],
    refl,
    (ns, refl, numerals_numbers ns small, refl),
    (refl, refl),
  );
  fine = numerals_fields ns small;
}

pub hex_due : {text : List ℕ} → (pairs : List (List ℕ)) (bytes : List ℕ) → ArePairs pairs bytes
    → IsUtf8 bytes
    → AreFields pairs → AreSpelled (due.Hex ∷ []) text pairs (value.Bytes bytes ∷ [])
hex_due pairs bytes are utf8 fine = record {
  spell = (value.Bytes bytes, [], [], refl, (bytes, refl, are, utf8, refl), (refl, refl));
  fine = fine;
}

-- bytes behind numbers, as fields behind theirs
pub front_numerals : (ns bytes : List ℕ) (more : List (List ℕ)) → bytes ≡ spaced more
    → fields ns ++ bytes ≡ spaced (numerals ns ++ more)
front_numerals ns bytes more e =
    ap (λ back. fields ns ++ back) e
    ∙ (ap (λ front. front ++ spaced more) (sym (spaced_numerals ns))
    ∙ sym (spaced-append (numerals ns) more))

-- 0 and 1 are written as a digit
pub zero_known : {k : Numbering} {dues : List Due} {text : List ℕ} {rest : List (List ℕ)}
    {more : List Value}
    → AreSpelled dues text rest more
    → AreSpelled (due.Known k ∷ dues) text (codes "0" ∷ rest) (value.Number 0 ∷ more)
zero_known {k} {dues} {text} {rest} {more} h =
    subst (λ (field : List ℕ). AreSpelled (due.Known k ∷ dues) text (field ∷ rest)
    (value.Number 0 ∷ more))
    (decimal_digit 0 (omega arith)) (known 0 (omega arith) h)

flag_decimal : (b : Bool) → flag_word b ≡ decimal (k_field b)
flag_decimal false = sym (decimal_digit 0 (omega arith))
flag_decimal true = sym (decimal_digit 1 (omega arith))

pub flag_number : {dues : List Due} {text : List ℕ} {rest : List (List ℕ)} {more : List Value}
    → (b : Bool) → AreSpelled dues text rest more
    → AreSpelled (due.Flag ∷ dues) text (decimal (k_field b) ∷ rest) (value.Flag b ∷ more)
flag_number {dues} {text} {rest} {more} b h =
    subst (λ (field : List ℕ). AreSpelled (due.Flag ∷ dues) text (field ∷ rest)
    (value.Flag b ∷ more))
    (flag_decimal b) (flag_due b h)
