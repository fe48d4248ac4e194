-- Digits that bytes begin with, and where a field ends.
use Rattle.std.specs.Prelude.{◌≡◌, ℕ, ◌<◌, ◌≤◌, ◌⊎◌, List, ◌++◌, length, slice_index_or}
use Rattle.std.specs.Str.Parse.{AllDigits, digits_value}

-- the bytes are digits that make this number, and the rest
pub record LeadingDigits (bytes rest : List ℕ) (number : ℕ) : Type 0 where
  pub digits : List ℕ
  pub parts : bytes ≡ digits ++ rest
  pub all : AllDigits 10 digits
  pub value : digits_value 10 digits ≡ number

-- nothing is left, or a space comes next
abbrev pub EndsField : List ℕ → Type 0
EndsField rest = (length rest < 1) ⊎ ((1 ≤ length rest) × (slice_index_or rest 0 0 ≡ 32))
