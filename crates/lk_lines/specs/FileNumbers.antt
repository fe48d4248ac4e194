-- The numbers of a line, as wide as its kind of line has them.
use Rattle.std.specs.Prelude.{◌≡◌, ℕ, ◌^◌, List, [], ◌∷◌, map, refl}
use Rattle.std.proofs.Common.{ap}

-- limit: the numbers are below it; value, values: what they are as numbers
pub record NumberView (N : Type 0) : Type 0 where
  pub limit : ℕ
  pub value : N → ℕ
  pub values : List N → List ℕ

-- numbers of 32 bits
abbrev pub narrow : NumberView ℕ
narrow = record { limit = 2 ^ 32; value = λ n. n; values = λ ns. ns }

-- numbers of 64 bits
abbrev pub wide : NumberView ℕ
wide = record { limit = 2 ^ 64; value = λ n. n; values = λ ns. ns }

-- each number of a list stands for itself
pub same_values : (ns : List ℕ) → ns ≡ map (λ n. n) ns
same_values [] = refl
same_values (n ∷ ns) = ap (λ ms. n ∷ ms) (same_values ns)
