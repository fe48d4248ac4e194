-- The table of a numbering.
use Rattle.std.specs.Prelude.{ℕ, suc, ◌≡◌, List, Option, Some, None, slice_index_or}
use native.Mathlib.Decide.{ℕ_discrete}
use Rattle.lk_trim.specs.Written.{place}

-- the first place of a number
abbrev pub place_in : List ℕ → ℕ → Option ℕ
place_in noted n = place ℕ_discrete noted n

-- a place counted from 1; 0 where there is none
abbrev pub from_one : Option ℕ → ℕ
from_one None = 0
from_one (Some i) = suc i

abbrev pub AreCells : List ℕ → List ℕ → Type 0
AreCells cells noted = (n : ℕ) → slice_index_or cells n 0 ≡ from_one (place_in noted n)

-- a cell that is not there is one with 0
abbrev pub AreAlike : List ℕ → List ℕ → Type 0
AreAlike old new = (n : ℕ) → slice_index_or new n 0 ≡ slice_index_or old n 0
