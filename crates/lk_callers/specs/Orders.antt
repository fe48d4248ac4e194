-- In which order texts come into a list, where callers add them at one time.
use Rattle.std.specs.Prelude.{◌≡◌, ℕ, ◌%◌, ◌<◌, List, slice_get, Some}

-- An order of so many texts, by their numbers, in which each of so many callers' texts rise. The
-- callers take turns: text k is that of the caller whose number is left over where k is divided by
-- how many callers there are.
pub record IsOrder (texts callers : ℕ) (order : List ℕ) : Type 0 where
  -- each text is there, once, and nothing else
  pub below : (i k : ℕ) → slice_get order i ≡ Some k → k < texts
  pub all : (k : ℕ) → k < texts → (i : ℕ) × (slice_get order i ≡ Some k)
  pub once : (i j k : ℕ) → slice_get order i ≡ Some k → slice_get order j ≡ Some k → i ≡ j
  -- and behind one text of a caller comes no earlier one of the same caller
  pub rise : (i j k m : ℕ) → i < j → slice_get order i ≡ Some k → slice_get order j ≡ Some m
      → k % callers ≡ m % callers → k < m
