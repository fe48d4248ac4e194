-- Fields that are joined by single spaces are the fields of their line, and hold no line feed.
use Rattle.std.proofs.Common.{◌≡◌, ◌≢◌, ℕ, suc, ◌+◌, ◌<◌, ◌==◌, Bool, true, false, cond, List, []}
use Rattle.std.proofs.Common.{◌∷◌, ◌++◌, length, nat_lt, refl, sym, ap, arith}
use Rattle.std.specs.List.{position_or_len, All}
use Rattle.std.proofs.lemmas.Bool.Decides.{nat_tests}
use Rattle.std.proofs.lemmas.List.Elements.{All-nil, All-cons, All-head, All-tail, All-append}
use Rattle.std.proofs.lemmas.List.Elements.{All-weaker}
use Rattle.std.proofs.lemmas.List.Splits.{slice_split_at, slice_split_none}
use mathlib.Core.List.{append-nil, append_assoc}
use Rattle.lk_token.specs.Fields.{fields_of, text_behind, skip_spaces, skip_field}
use Rattle.lk_token.specs.Lines.{HasNoLineFeed}

-- neither a space nor a line feed is among the bytes
abbrev pub is_plain : List ℕ → Bool
is_plain [] = true
is_plain (b ∷ bytes) = cond (b == 32) false (cond (b == 10) false (is_plain bytes))

abbrev pub IsPlainByte : ℕ → Type 0
IsPlainByte b = ((b == 32) ≡ false) × (b ≢ 10)

-- what may stand between two spaces of a line
pub record IsField (field : List ℕ) : Type 0 where
  pub some : 0 < length field
  pub plain : is_plain field ≡ true

abbrev pub AreFields : List (List ℕ) → Type 0
AreFields [] = Unit {0}
AreFields (field ∷ fields) = IsField field × AreFields fields

-- a space before each field
abbrev pub spaced : List (List ℕ) → List ℕ
spaced [] = []
spaced (field ∷ fields) = 32 ∷ (field ++ spaced fields)

bytes_step : (b : ℕ) (bytes : List ℕ) → (is_plain bytes ≡ true → All IsPlainByte bytes) → (s : Bool)
    → (b == 32) ≡ s
    → (t : Bool) → (b == 10) ≡ t → is_plain (b ∷ bytes) ≡ true → All IsPlainByte (b ∷ bytes)
bytes_step b bytes ih true e t f h = absurd (let h' = rw e at h in cc)
bytes_step b bytes ih false e true f h = absurd (let h' = rw (e, f) at h in cc)
bytes_step b bytes ih false e false f h =
    let rest : is_plain bytes ≡ true = rw (e, f) at h in
    let other : b ≢ 10 = grind (arith, nat_tests) in
    All-cons IsPlainByte b bytes (e, other) (ih rest)

plain_bytes : (bytes : List ℕ) → is_plain bytes ≡ true → All IsPlainByte bytes
plain_bytes [] h = All-nil IsPlainByte
plain_bytes (b ∷ bytes) h = bytes_step b bytes (plain_bytes bytes) (b == 32) refl (b == 10) refl h

no_space : (field : List ℕ) → IsField field → All (λ b. (b == 32) ≡ false) field
no_space field is =
    All-weaker IsPlainByte (λ b. (b == 32) ≡ false) (λ b h. h.0) field (plain_bytes field is.plain)

field_feed : (field : List ℕ) → IsField field → HasNoLineFeed field
field_feed field is =
    All-weaker IsPlainByte (λ b. b ≢ 10) (λ b h. h.1) field (plain_bytes field is.plain)

space_feed : ◌≢◌ {A = ℕ} 32 10
space_feed e = omega arith

pub spaced_feed : (fields : List (List ℕ)) → AreFields fields → HasNoLineFeed (spaced fields)
spaced_feed [] h = All-nil (λ b. b ≢ 10)
spaced_feed (field ∷ fields) h =
    All-cons (λ b. b ≢ 10) 32 (field ++ spaced fields) space_feed
    (All-append (λ b. b ≢ 10) field (spaced fields) (field_feed field h.0) (spaced_feed fields h.1))

pub joined_feed : (field : List ℕ) (fields : List (List ℕ)) → AreFields (field ∷ fields)
    → HasNoLineFeed (field ++ spaced fields)
joined_feed field fields h =
    All-append (λ b. b ≢ 10) field (spaced fields) (field_feed field h.0) (spaced_feed fields h.1)

-- a space in front counts for nothing
space_first : (bytes : List ℕ) → fields_of (32 ∷ bytes) ≡ fields_of bytes
unfolding fields_of
space_first bytes = refl

one_field : (field : List ℕ) → IsField field → fields_of field ≡ field ∷ []
unfolding fields_of
one_field field is =
    let some : nat_lt 0 (length field) ≡ true = (let h = is.some in grind (arith, nat_tests)) in
    rw (slice_split_none (λ b. b == 32) field (no_space field is)) (rw some refl)

pub field_then : (field bytes : List ℕ) → IsField field
    → fields_of (field ++ 32 ∷ bytes) ≡ field ∷ fields_of bytes
unfolding fields_of
field_then field bytes is =
    let some : nat_lt 0 (length field) ≡ true = (let h = is.some in grind (arith, nat_tests)) in
    rw (slice_split_at (λ b. b == 32) field 32 bytes (no_space field is) refl) (rw some refl)

-- the fields are those that were joined
pub joined_fields : (field : List ℕ) (fields : List (List ℕ)) → AreFields (field ∷ fields)
    → fields_of (field ++ spaced fields) ≡ field ∷ fields
joined_fields field [] h = rw (append-nil field) (one_field field h.0)
joined_fields field (next ∷ fields) h =
    rw (field_then field (next ++ spaced fields) h.0, joined_fields next fields h.1) refl

pub spaced-append : (xs ys : List (List ℕ)) → spaced (xs ++ ys) ≡ spaced xs ++ spaced ys
spaced-append [] ys = refl
spaced-append (x ∷ xs) ys =
    ap (λ bytes. 32 ∷ bytes)
    (rw (spaced-append xs ys) (sym (append_assoc x (spaced xs) (spaced ys))))

-- The text behind the third field.
spaces_kept : (field bytes : List ℕ) → IsField field → skip_spaces (field ++ bytes) ≡ field ++ bytes
spaces_kept [] bytes is = absurd (let h = is.some in omega arith)
spaces_kept (b ∷ field) bytes is =
    let e = (All-head IsPlainByte b field (plain_bytes (b ∷ field) is.plain)).0 in rw e refl

skip_lem : (field bytes : List ℕ) → All IsPlainByte field
    → skip_field (field ++ 32 ∷ bytes) ≡ 32 ∷ bytes
skip_lem [] bytes h = refl
skip_lem (b ∷ field) bytes h =
    let e = (All-head IsPlainByte b field h).0 in
    let n : ℕ = position_or_len (λ b. b == 32) (field ++ 32 ∷ bytes) in
    let one : 1 + position_or_len (λ b. b == 32) (field ++ 32 ∷ bytes) ≡ suc
    (position_or_len (λ b. b == 32) (field ++ 32 ∷ bytes)) = omega arith in
    rw (e, one) (skip_lem field bytes (All-tail IsPlainByte b field h))

field_skipped : (field bytes : List ℕ) → IsField field
    → skip_field (skip_spaces (field ++ 32 ∷ bytes)) ≡ 32 ∷ bytes
field_skipped field bytes is =
    rw (spaces_kept field (32 ∷ bytes) is) (skip_lem field bytes (plain_bytes field is.plain))

-- three fields, and any bytes behind them
pub three_fields : (a b c bytes : List ℕ) → IsField a → IsField b → IsField c
    → fields_of (a ++ 32 ∷ (b ++ 32 ∷ (c ++ 32 ∷ bytes))) ≡ a ∷ b ∷ c ∷ fields_of bytes
three_fields a b c bytes p q r =
    rw (
      field_then a (b ++ 32 ∷ (c ++ 32 ∷ bytes)) p,
      field_then b
          (c ++ 32 ∷ bytes) q,
      field_then c bytes r,
    ) refl

pub text_behind-three : (a b c bytes : List ℕ) → IsField a → IsField b → IsField c
    → text_behind (a ++ 32 ∷ (b ++ 32 ∷ (c ++ 32 ∷ bytes))) ≡ bytes
unfolding text_behind
text_behind-three a b c bytes p q r =
    rw (
      field_skipped a (b ++ 32 ∷ (c ++ 32 ∷ bytes)) p,
      field_skipped b
          (c ++ 32 ∷ bytes) q,
      field_skipped c bytes r,
    ) refl

pub three_feed : (a b c bytes : List ℕ) → IsField a → IsField b → IsField c → HasNoLineFeed bytes
    → HasNoLineFeed (a ++ 32 ∷ (b ++ 32 ∷ (c ++ 32 ∷ bytes)))
three_feed a b c bytes p q r h =
    All-append (λ b. b ≢ 10) a (32 ∷ (b ++ 32 ∷ (c ++ 32 ∷ bytes))) (field_feed a p)
    (All-cons (λ b. b ≢ 10) 32 (b ++ 32 ∷ (c ++ 32 ∷ bytes)) space_feed
    (All-append (λ b. b ≢ 10) b (32 ∷ (c ++ 32 ∷ bytes)) (field_feed b q)
    (All-cons (λ b. b ≢ 10) 32 (c ++ 32 ∷ bytes) space_feed
    (All-append (λ b. b ≢ 10) c (32 ∷ bytes) (field_feed c r)
    (All-cons (λ b. b ≢ 10) 32 bytes space_feed h)))))
