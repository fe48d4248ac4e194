-- Pairs of hexadecimal digits: the function that reads them against the relation that they spell bytes.
use Rattle.std.proofs.Common.{◌≡◌, ℕ, ◌*◌, ◌+◌, Bool, true, false, List, [], ◌∷◌, ◌++◌, Some, None, refl, ap, inl, inr}
use Rattle.std.specs.Prelude.{◌⊎◌}
use Rattle.std.specs.declared.option.Option.{Option}
use Rattle.std.specs.Char.{is_ascii_hexdigit, digit_value}
use Rattle.lk_token.specs.Hex.{IsPair, ArePairs, pair_of, pairs_of}

-- the bytes that were found, and those that are still to come
abbrev pub after_bytes : List ℕ → Option (List ℕ) → Option (List ℕ)
after_bytes front None = None
after_bytes front (Some more) = Some (front ++ more)

absurd_lem : (b : Bool) → b ≡ true → b ≡ false → ⊥
absurd_lem true p q = absurd cc
absurd_lem false p q = absurd cc

pub pair_again : (field : List ℕ) (n : ℕ) → IsPair field n → pair_of field ≡ Some n
pair_again field n (a, b, q, p, r, is) = rw (q, p, r, is) refl

pub pairs_again : (fields : List (List ℕ)) (ns : List ℕ) → ArePairs fields ns → pairs_of fields ≡ Some ns
pairs_again [] [] h = refl
pairs_again [] (n ∷ ns) h = absurd h
pairs_again (field ∷ fields) [] h = absurd h
pairs_again (field ∷ fields) (n ∷ ns) h = rw (pair_again field n h.0, pairs_again fields ns h.1) refl

digits_lem : (a b : ℕ) (x y : Bool) → is_ascii_hexdigit a ≡ x → is_ascii_hexdigit b ≡ y
    → ((n : ℕ) × (pair_of (a ∷ b ∷ []) ≡ Some n) × IsPair (a ∷ b ∷ []) n) ⊎ ((pair_of (a ∷ b ∷ []) ≡ None) × ((n : ℕ) → ¬ (IsPair (a ∷ b ∷ []) n)))
digits_lem a b true true p q = inl (digit_value a * 16 + digit_value b, rw (p, q) refl, (a, b, refl, p, q, refl))
digits_lem a b false y p q = inr (rw p refl, λ n h. let e : a ≡ h.0 = (let eq = h.2 in cc) in absurd_lem (is_ascii_hexdigit a) (rw e h.3) p)
digits_lem a b true false p q = inr (rw (p, q) refl, λ n h. let e : b ≡ h.1 = (let eq = h.2 in cc) in absurd_lem (is_ascii_hexdigit b) (rw e h.4) q)

pub pair_cases : (field : List ℕ) → ((n : ℕ) × (pair_of field ≡ Some n) × IsPair field n) ⊎ ((pair_of field ≡ None) × ((n : ℕ) → ¬ (IsPair field n)))
pair_cases [] = inr (refl, λ n h. let eq = h.2 in absurd cc)
pair_cases (a ∷ []) = inr (refl, λ n h. let eq = h.2 in absurd cc)
pair_cases (a ∷ b ∷ []) = digits_lem a b (is_ascii_hexdigit a) (is_ascii_hexdigit b) refl refl
pair_cases (a ∷ b ∷ c ∷ more) = inr (refl, λ n h. let eq = h.2 in absurd cc)

-- some field is no pair, and all before it are
abbrev pub PairsFault : List (List ℕ) → Type 0
PairsFault fields = (front : List (List ℕ)) × (bytes : List ℕ) × (field : List ℕ) × (more : List (List ℕ)) × (fields ≡ front ++ field ∷ more) × ArePairs front bytes × ((b : ℕ) → ¬ (IsPair field b))

pub pairs_cases : (fields : List (List ℕ)) → ((bytes : List ℕ) × (pairs_of fields ≡ Some bytes) × ArePairs fields bytes) ⊎ ((pairs_of fields ≡ None) × PairsFault fields)
pairs_cases [] = inl ([], refl, tt)
pairs_cases (field ∷ fields) = elim (pair_cases field) [
  | inl (n, e, h) ↦ elim (pairs_cases fields) [
    | inl (ns, is, all) ↦ inl (n ∷ ns, rw (e, is) refl, (h, all))
    | inr (is, (front, ns, f, more, q, all, bad)) ↦ inr (rw (e, is) refl, (field ∷ front, n ∷ ns, f, more, ap (λ x. field ∷ x) q, (h, all), bad))
  ]
  | inr (e, h) ↦ inr (rw e refl, ([], [], field, fields, refl, tt, h))
]

pub pair_stop : (field : List ℕ) → ((b : ℕ) → ¬ (IsPair field b)) → pair_of field ≡ None
pair_stop field h = elim (pair_cases field) [
  | inl (n, e, is) ↦ absurd (h n is)
  | inr (e, isnt) ↦ e
]

pub pairs_stop : (front : List (List ℕ)) (bytes : List ℕ) (field : List ℕ) (more : List (List ℕ)) → ArePairs front bytes → ((b : ℕ) → ¬ (IsPair field b)) → pairs_of (front ++ field ∷ more) ≡ None
pairs_stop [] bytes field more all bad = rw (pair_stop field bad) refl
pairs_stop (f ∷ front) [] field more all bad = absurd all
pairs_stop (f ∷ front) (n ∷ ns) field more all bad = rw (pair_again f n all.0, pairs_stop front ns field more all.1 bad) refl

-- what is read is spelled, and nothing is spelled where nothing is read
pub pairs_spelled : (fields : List (List ℕ)) (bytes : List ℕ) → pairs_of fields ≡ Some bytes → ArePairs fields bytes
pairs_spelled fields bytes e = elim (pairs_cases fields) [
  | inl (ns, is, all) ↦ let same : bytes ≡ ns = (let both = is in cc) in rw same all
  | inr (is, bad) ↦ absurd (let both = is in cc)
]

pub pairs_unspelled : (fields : List (List ℕ)) → pairs_of fields ≡ None → (bytes : List ℕ) → ¬ (ArePairs fields bytes)
pairs_unspelled fields e bytes h = let is = pairs_again fields bytes h in cc
