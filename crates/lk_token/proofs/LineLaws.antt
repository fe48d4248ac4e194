-- What stands before the first line feed is a line.
use Rattle.std.proofs.Common.{◌≡◌, ◌≢◌, ℕ, suc, ◌+◌, ◌≤◌, ◌==◌, Bool, true, false, List, [], ◌∷◌, length, take, Some, None, refl, subst, arith, nat_lt, cond, inl, inr}
use Rattle.std.specs.List.{position_or_len}
use Rattle.std.proofs.lemmas.Bool.{cases_lt}
use Rattle.std.proofs.lemmas.Bool.Decides.{nat_tests}
use Rattle.std.proofs.lemmas.List.Elements.{All-nil, All-cons}
use Rattle.lk_token.specs.Lines.{line_feed, IsLineOf}

feed_step : (x : ℕ) (xs : List ℕ) → IsLineOf xs (position_or_len (λ b. b == 10) xs) → (b : Bool) → (x == 10) ≡ b → IsLineOf (x ∷ xs) (position_or_len (λ b. b == 10) (x ∷ xs))
feed_step x xs ih true e = rw e (omega arith, All-nil (λ b. b ≢ 10))
feed_step x xs ih false e =
    let one : 1 + position_or_len (λ b. b == 10) xs ≡ suc (position_or_len (λ b. b == 10) xs) = omega arith in
    let within = ih.0 in
    let other : x ≢ 10 = grind (arith, nat_tests) in
    rw (e, one) (omega arith, All-cons (λ b. b ≢ 10) x (take (position_or_len (λ b. b == 10) xs) xs) other ih.1)

before_feed : (bytes : List ℕ) → IsLineOf bytes (position_or_len (λ b. b == 10) bytes)
before_feed [] = (omega arith, All-nil (λ b. b ≢ 10))
before_feed (x ∷ xs) = feed_step x xs (before_feed xs) (x == 10) refl

some_lem : (n len k : ℕ) → cond (nat_lt n len) (Some n) None ≡ Some k → n ≡ k
some_lem n len k e = elim (cases_lt n len) [
  | inl lt ↦ let t : nat_lt n len ≡ true = grind (arith, nat_tests) in let e' : Some n ≡ Some k = rw t at e in cc
  | inr le ↦ let t : nat_lt n len ≡ false = grind (arith, nat_tests) in let e' = rw t at e in absurd cc
]

none_lem : (n len : ℕ) → n ≤ len → cond (nat_lt n len) (Some n) None ≡ None → n ≡ len
none_lem n len within e = elim (cases_lt n len) [
  | inl lt ↦ let t : nat_lt n len ≡ true = grind (arith, nat_tests) in let e' = rw t at e in absurd cc
  | inr le ↦ omega arith
]

pub feed_some : (bytes : List ℕ) (n : ℕ) → line_feed bytes ≡ Some n → IsLineOf bytes n
feed_some bytes n e = let P : ℕ → Type 0 = λ k. IsLineOf bytes k in subst P (some_lem (position_or_len (λ b. b == 10) bytes) (length bytes) n e) (before_feed bytes)

pub feed_none : (bytes : List ℕ) → line_feed bytes ≡ None → IsLineOf bytes (length bytes)
feed_none bytes e = let P : ℕ → Type 0 = λ k. IsLineOf bytes k in subst P (none_lem (position_or_len (λ b. b == 10) bytes) (length bytes) (before_feed bytes).0 e) (before_feed bytes)
