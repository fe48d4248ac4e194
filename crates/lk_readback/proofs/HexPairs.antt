-- Two hexadecimal digits for each byte of a text.
use Rattle.std.proofs.Common.{◌≡◌, ℕ, zero, suc, ◌+◌, ◌*◌, ◌/◌, ◌%◌, ◌<◌, ◌==◌, Bool, true, false}
use Rattle.std.proofs.Common.{List, [], ◌∷◌, ◌++◌, refl, sym, ap, ◌∙◌, subst, nat_lt, arith, inl}
use Rattle.std.proofs.Common.{inr}
use Rattle.std.specs.Prelude.{IsUtf8}
use Rattle.std.specs.Char.{is_ascii_hexdigit, digit_value}
use Rattle.std.proofs.lemmas.Bool.Decides.{nat_tests}
use lib.Utf8.{scalar, scalars, encode, encodes, scalar_cases}
use Rattle.lk_token.specs.Hex.{IsPair, ArePairs}
use Rattle.lk_trim.specs.Trees.{hex_digit, hex_fields}
use Rattle.lk_readback.proofs.Joined.{IsField, AreFields, spaced}

abbrev pub AreBytes : List ℕ → Type 0
AreBytes [] = Unit {0}
AreBytes (b ∷ bytes) = (b < 256) × AreBytes bytes

bytes_append : (xs ys : List ℕ) → AreBytes xs → AreBytes ys → AreBytes (xs ++ ys)
bytes_append [] ys p q = q
bytes_append (x ∷ xs) ys p q = (p.0, bytes_append xs ys p.1 q)

encode_lem : (c : ℕ) → c < 1114112 → (one : Bool) → nat_lt c 128 ≡ one → (two : Bool)
    → nat_lt c 2048 ≡ two
    → (three : Bool) → nat_lt c 65536 ≡ three → AreBytes (encode c)
unfolding encode
encode_lem c lt true e two f three g =
    let small : c < 128 = grind (arith, nat_tests) in
    rw e (omega arith, tt)
encode_lem c lt false e true f three g =
    let small : c < 2048 = grind (arith, nat_tests) in
    rw (e, f) (omega arith, (omega arith, tt))
encode_lem c lt false e false f true g =
    let small : c < 65536 = grind (arith, nat_tests) in
    rw (e, f, g) (omega arith, (omega arith, (omega arith, tt)))
encode_lem c lt false e false f false g =
    rw (e, f, g) (omega arith, (omega arith, (omega arith, (omega arith, tt))))

scalar_below : (c : ℕ) → scalar c ≡ true → c < 1114112
scalar_below c h = elim (scalar_cases c h) [
  | inl low ↦ omega arith
  | inr high ↦ omega arith
]

scalar_step : (c : ℕ) (cs : List ℕ) → (scalars cs ≡ true → AreBytes (encodes cs)) → (s : Bool)
    → scalar c ≡ s
    → scalars (c ∷ cs) ≡ true → AreBytes (encodes (c ∷ cs))
scalar_step c cs ih true e h =
    let rest : scalars cs ≡ true = rw e at h in
    bytes_append (encode c) (encodes cs)
    (encode_lem c (scalar_below c e) (nat_lt c 128) refl (nat_lt c 2048) refl (nat_lt c 65536) refl)
    (ih rest)
scalar_step c cs ih false e h = absurd (let h' = rw e at h in cc)

encodes_bytes : (cs : List ℕ) → scalars cs ≡ true → AreBytes (encodes cs)
encodes_bytes [] h = tt
encodes_bytes (c ∷ cs) h = scalar_step c cs (encodes_bytes cs) (scalar c) refl h

pub utf8_bytes : (bytes : List ℕ) → IsUtf8 bytes → AreBytes bytes
utf8_bytes bytes h = subst (λ (bs : List ℕ). AreBytes bs) h.1.1 (encodes_bytes h.0 h.1.0)

record IsDigit (d : ℕ) : Type 0 where
  digit : is_ascii_hexdigit (hex_digit d) ≡ true
  value : digit_value (hex_digit d) ≡ d
  space : (hex_digit d == 32) ≡ false
  feed : (hex_digit d == 10) ≡ false

digit_lem : (d : ℕ) → d < 16 → IsDigit d
digit_lem zero lt = record { digit = refl; value = refl; space = refl; feed = refl }
digit_lem (suc zero) lt = record { digit = refl; value = refl; space = refl; feed = refl }
digit_lem (suc (suc zero)) lt = record { digit = refl; value = refl; space = refl; feed = refl }
digit_lem (suc (suc (suc zero))) lt =
    record { digit = refl; value = refl; space = refl; feed = refl }
digit_lem (suc (suc (suc (suc zero)))) lt =
    record { digit = refl; value = refl; space = refl; feed = refl }
digit_lem (suc (suc (suc (suc (suc zero))))) lt =
    record { digit = refl; value = refl; space = refl; feed = refl }
digit_lem (suc (suc (suc (suc (suc (suc zero)))))) lt =
    record { digit = refl; value = refl; space = refl; feed = refl }
digit_lem (suc (suc (suc (suc (suc (suc (suc zero))))))) lt =
    record { digit = refl; value = refl; space = refl; feed = refl }
digit_lem (suc (suc (suc (suc (suc (suc (suc (suc zero)))))))) lt =
    record { digit = refl; value = refl; space = refl; feed = refl }
digit_lem (suc (suc (suc (suc (suc (suc (suc (suc (suc zero))))))))) lt =
    record { digit = refl; value = refl; space = refl; feed = refl }
digit_lem (suc (suc (suc (suc (suc (suc (suc (suc (suc (suc zero)))))))))) lt =
    record { digit = refl; value = refl; space = refl; feed = refl }
digit_lem (suc (suc (suc (suc (suc (suc (suc (suc (suc (suc (suc zero))))))))))) lt =
    record { digit = refl; value = refl; space = refl; feed = refl }
digit_lem (suc (suc (suc (suc (suc (suc (suc (suc (suc (suc (suc (suc zero)))))))))))) lt =
    record { digit = refl; value = refl; space = refl; feed = refl }
digit_lem (suc (suc (suc (suc (suc (suc (suc (suc (suc (suc (suc (suc (suc zero))))))))))))) lt =
    record { digit = refl; value = refl; space = refl; feed = refl }
digit_lem
    (suc (suc (suc (suc (suc (suc (suc (suc (suc (suc (suc (suc (suc (suc zero)))))))))))))) lt =
    record { digit = refl; value = refl; space = refl; feed = refl }
digit_lem
    (suc (suc
    (suc (suc (suc (suc (suc (suc (suc (suc (suc (suc (suc (suc (suc zero))))))))))))))) lt =
    record { digit = refl; value = refl; space = refl; feed = refl }
digit_lem
    (suc (suc
    (suc (suc (suc (suc (suc (suc (suc (suc (suc (suc (suc (suc (suc (suc d)))))))))))))))) lt =
    absurd (omega arith)

-- a field of two digits
abbrev hex_pair : ℕ → List ℕ
hex_pair b = hex_digit (b / 16) ∷ hex_digit (b % 16) ∷ []

pair_lem : (b : ℕ) → b < 256 → IsPair (hex_pair b) b
pair_lem b lt =
    let high = digit_lem (b / 16) (omega arith) in
    let low = digit_lem (b % 16) (omega arith) in
    let whole : b ≡ b / 16 * 16 + b % 16 = omega arith in (
      hex_digit (b / 16),
      hex_digit (b % 16),
      refl,
      high.digit,
      low.digit,
      whole ∙ (ap (λ n. n * 16 + b % 16) (sym high.value)
          ∙ ap (λ n. digit_value (hex_digit (b / 16)) * 16 + n) (sym low.value)),
    )

pair_field : (b : ℕ) → b < 256 → IsField (hex_pair b)
pair_field b lt =
    let high = digit_lem (b / 16) (omega arith) in
    let low = digit_lem (b % 16) (omega arith) in
    record { some = omega arith; plain = rw (high.space, high.feed, low.space, low.feed) refl }

abbrev pub hex_pairs : List ℕ → List (List ℕ)
hex_pairs [] = []
hex_pairs (b ∷ bytes) = hex_pair b ∷ hex_pairs bytes

pub pairs_spaced : (bytes : List ℕ) → hex_fields bytes ≡ spaced (hex_pairs bytes)
pairs_spaced [] = refl
pairs_spaced (b ∷ bytes) =
    ap (λ more. 32 ∷ hex_digit (b / 16) ∷ hex_digit (b % 16) ∷ more) (pairs_spaced bytes)

pub pairs_are : (bytes : List ℕ) → AreBytes bytes → ArePairs (hex_pairs bytes) bytes
pairs_are [] h = tt
pairs_are (b ∷ bytes) h = (pair_lem b h.0, pairs_are bytes h.1)

pub pairs_fields : (bytes : List ℕ) → AreBytes bytes → AreFields (hex_pairs bytes)
pairs_fields [] h = tt
pairs_fields (b ∷ bytes) h = (pair_field b h.0, pairs_fields bytes h.1)
