-- Which units have to be checked again when a library has changed.
use Rattle.std.specs.Prelude.{ℕ, ◌≡◌, Bool, true, false, ◌||◌, List, [], ◌∷◌, length, max, slice_get, Some}
use Rattle.lk_rulebook.specs.Units.{Library}
use Rattle.lk_uses.specs.Closure.{IsInClosure, IsUnchanged}

-- marks for each number that stands in one of two libraries: whether the unit of this number is
-- another, or there in the one alone
pub record MarksChanged (us vs : Library) (marks : List Bool) : Type 0 where
  pub changed : (k : ℕ) → slice_get marks k ≡ Some true → slice_get us k ≡ slice_get vs k → ⊥
  pub same : (k : ℕ) → slice_get marks k ≡ Some false → slice_get us k ≡ slice_get vs k
  pub as_many : length marks ≡ max (length us) (length vs)

-- marks for each unit: whether its closure holds a unit that is marked in the other list
pub record MarksTouched (us : Library) (changed marks : List Bool) : Type 0 where
  pub as_many : length marks ≡ length us
  pub touched : (n : ℕ) → slice_get marks n ≡ Some true
      → (k : ℕ) × IsInClosure us n k × (slice_get changed k ≡ Some true)
  pub untouched : (n k : ℕ) → slice_get marks n ≡ Some false → IsInClosure us n k
      → slice_get changed k ≡ Some true → ⊥

-- marks for each unit of vs: whether something of its closure changed from us to vs
pub record MarksStale (us vs : Library) (marks : List Bool) : Type 0 where
  pub as_many : length marks ≡ length vs
  pub stale : (n : ℕ) → slice_get marks n ≡ Some true → IsUnchanged us vs n → ⊥
  pub fresh : (n : ℕ) → slice_get marks n ≡ Some false → IsUnchanged us vs n

abbrev pub first_mark : List Bool → Bool
first_mark [] = false
first_mark (m ∷ ms) = m

abbrev pub later_marks : List Bool → List Bool
later_marks [] = []
later_marks (m ∷ ms) = ms

-- the marks of the first list, each set too where it is set in the second
abbrev pub either : List Bool → List Bool → List Bool
either [] ns = []
either (m ∷ ms) ns = (m || first_mark ns) ∷ either ms (later_marks ns)
