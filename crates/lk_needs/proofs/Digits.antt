-- The decimal digits of numbers from one on.
use Rattle.std.proofs.Common.{ℕ, zero, suc, ◌≡◌, ◌+◌, ◌-◌, ◌*◌, ◌/◌, ◌%◌, ◌<◌, ◌≤◌, Bool, true, false, nat_lt, List, [], ◌∷◌, ◌++◌, take, drop, length, codes, refl, sym, ap, subst, ◌∙◌, append_assoc, arith}
use Rattle.std.specs.Prelude.{◌↔◌, All, IsTrue, if◌then◌else◌}
use Rattle.std.proofs.lemmas.Bool.Decides.{nat_tests}
use Rattle.std.proofs.lemmas.List.{append-nil, take-append-drop, length-take}
use Rattle.std.proofs.lemmas.List.Elements.{All-nil, All-cons, All-head, All-tail}
use Rattle.lk_inductive.specs.Restore.{digits}
use Rattle.lk_needs.specs.Endings.{IsDigit, IsPositive, IsNumberedWord}

-- what stands behind stays behind
digits_append : (f n : ℕ) (r s : List ℕ) → digits f n (r ++ s) ≡ digits f n r ++ s
digits_append zero n r s = refl
digits_append (suc f) n r s = go (nat_lt n 10) (digits_append f (n / 10) ((48 + n % 10) ∷ r) s)
  where
    go : (b : Bool) → digits f (n / 10) ((48 + n % 10) ∷ (r ++ s)) ≡ digits f (n / 10) ((48 + n % 10) ∷ r) ++ s
        → (if b then (48 + n) ∷ (r ++ s) else digits f (n / 10) ((48 + n % 10) ∷ (r ++ s))) ≡ (if b then (48 + n) ∷ r else digits f (n / 10) ((48 + n % 10) ∷ r)) ++ s
    go true h = refl
    go false h = h

-- more fuel than the number is enough
digits_fuel : (f g n : ℕ) (r : List ℕ) → n < f → n < g → digits f n r ≡ digits g n r
digits_fuel zero g n r a b = absurd (omega arith)
digits_fuel (suc f) zero n r a b = absurd (omega arith)
digits_fuel (suc f) (suc g) n r a b = go (nat_lt n 10) refl (λ p q. digits_fuel f g (n / 10) ((48 + n % 10) ∷ r) p q)
  where
    go : (t : Bool) → nat_lt n 10 ≡ t → (n / 10 < f → n / 10 < g → digits f (n / 10) ((48 + n % 10) ∷ r) ≡ digits g (n / 10) ((48 + n % 10) ∷ r))
        → (if t then (48 + n) ∷ r else digits f (n / 10) ((48 + n % 10) ∷ r)) ≡ (if t then (48 + n) ∷ r else digits g (n / 10) ((48 + n % 10) ∷ r))
    go true e h = refl
    go false e h = let le : 10 ≤ n = grind (arith, nat_tests) in h (omega arith) (omega arith)

-- a digit behind
digits_step : (m n d : ℕ) → m ≡ 10 * n + d → 1 ≤ n → d < 10 → digits (suc m) m [] ≡ digits (suc n) n [] ++ (48 + d) ∷ []
digits_step m n d e p l =
    let wide : nat_lt m 10 ≡ false = (let le : 10 ≤ m = omega arith in grind (arith, nat_tests)) in
    let front : m / 10 ≡ n = omega arith in
    let last : m % 10 ≡ d = omega arith in
    let fuel : digits m n ((48 + d) ∷ []) ≡ digits (suc n) n ((48 + d) ∷ []) = digits_fuel m (suc n) n ((48 + d) ∷ []) (omega arith) (omega arith) in
    rw (wide, front, last) (fuel ∙ digits_append (suc n) n [] ((48 + d) ∷ []))

-- the word is what is written of a number from one on
record IsWritten (w : List ℕ) : Type 0 where
  number : ℕ
  positive : 1 ≤ number
  written : digits (suc number) number [] ≡ w

one_digit : (b : ℕ) → 49 ≤ b → b ≤ 57 → IsWritten (b ∷ [])
one_digit b l h = record {
  number = b - 48;
  positive = omega arith;
  written =
      let small : nat_lt (b - 48) 10 ≡ true = (let lt : b - 48 < 10 = omega arith in grind (arith, nat_tests)) in
      let same : 48 + (b - 48) ≡ b = omega arith in
      rw (small, same) refl;
}

digit_more : (w : List ℕ) (b : ℕ) → IsWritten w → IsDigit b → IsWritten (w ++ b ∷ [])
digit_more w b h d =
    let m : ℕ = 10 * h.number + (b - 48) in
    let same : 48 + (b - 48) ≡ b = omega (arith, d.0) in
    record {
      number = m;
      positive = omega (arith, h.positive);
      written = digits_step m h.number (b - 48) refl h.positive (omega (arith, d.1)) ∙ ap (λ ds. ds ++ (48 + (b - 48)) ∷ []) h.written ∙ ap (λ x. w ++ x ∷ []) same;
    }

digits_more : (w ds : List ℕ) → IsWritten w → All IsDigit ds → IsWritten (w ++ ds)
digits_more w [] h a = subst IsWritten (sym (append-nil w)) h
digits_more w (b ∷ bs) h a = subst IsWritten (append_assoc w (b ∷ []) bs) (digits_more (w ++ b ∷ []) bs (digit_more w b h (All-head IsDigit b bs a)) (All-tail IsDigit b bs a))

-- the digits of a number from one on begin with no zero
digits_positive : (f n : ℕ) (r : List ℕ) → 1 ≤ n → n < f → All IsDigit r → IsPositive (digits f n r)
digits_positive zero n r p l a = absurd (omega arith)
digits_positive (suc f) n r p l a = go (nat_lt n 10) refl (λ q m. digits_positive f (n / 10) ((48 + n % 10) ∷ r) q m (All-cons IsDigit (48 + n % 10) r (omega arith, omega arith) a))
  where
    go : (t : Bool) → nat_lt n 10 ≡ t → (1 ≤ n / 10 → n / 10 < f → IsPositive (digits f (n / 10) ((48 + n % 10) ∷ r))) → IsPositive (if t then (48 + n) ∷ r else digits f (n / 10) ((48 + n % 10) ∷ r))
    go true e h = let lt : n < 10 = grind (arith, nat_tests) in (omega arith, omega arith, a)
    go false e h = let le : 10 ≤ n = grind (arith, nat_tests) in h (omega arith) (omega arith)

pub numbered_word : (w : List ℕ) → IsPositive w → IsNumberedWord (114 ∷ 101 ∷ 99 ∷ 95 ∷ w)
numbered_word [] h = absurd h
numbered_word (b ∷ bs) h =
    let t : IsWritten ((b ∷ []) ++ bs) = digits_more (b ∷ []) bs (one_digit b h.0 h.1) h.2 in
    let same : suc (t.number - 1) ≡ t.number = omega (arith, t.positive) in
    (t.number - 1, ap (λ ds. 114 ∷ 101 ∷ 99 ∷ 95 ∷ ds) (ap (λ k. digits (suc k) k []) same ∙ t.written))

pub word_digits : (w : List ℕ) → IsNumberedWord (114 ∷ 101 ∷ 99 ∷ 95 ∷ w) → IsPositive w
word_digits w h =
    let is : digits (suc (suc h.0)) (suc h.0) [] ≡ w = cc (h.1) in
    subst IsPositive is (digits_positive (suc (suc h.0)) (suc h.0) [] (omega arith) (omega arith) (All-nil IsDigit))

-- A word by its first four bytes.
pub other_front : (w : List ℕ) → (take 4 w ≡ codes "rec_" → ⊥) → IsNumberedWord w → ⊥
other_front w other h = other (subst (λ v. take 4 v ≡ codes "rec_") h.1 refl)

pub front_numbered : (w : List ℕ) (b : Bool) → take 4 w ≡ codes "rec_" → (IsTrue b ↔ IsPositive (drop 4 w)) → (IsTrue b ↔ IsNumberedWord w)
front_numbered w b e h =
    let whole : 114 ∷ 101 ∷ 99 ∷ 95 ∷ drop 4 w ≡ w = ap (λ f. f ++ drop 4 w) (sym e) ∙ take-append-drop 4 w in
    (λ t. subst IsNumberedWord whole (numbered_word (drop 4 w) (h.0 t)), λ n. h.1 (word_digits (drop 4 w) (subst IsNumberedWord (sym whole) n)))

pub short_front : (w : List ℕ) → length w < 4 → take 4 w ≡ codes "rec_" → ⊥
short_front w l e =
    let four : length (take 4 w) ≡ 4 = ap length e in
    let count = length-take 4 w in
    omega (arith, four, count)

pub not_numbered : (w : List ℕ) → (IsNumberedWord w → ⊥) → (IsTrue false ↔ IsNumberedWord w)
not_numbered w none = (λ t. absurd cc, λ h. absurd (none h))
