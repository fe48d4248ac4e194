-- Libraries whose names are new, up to a unit.
use Rattle.std.specs.Prelude.{ℕ, ◌≡◌, ◌<◌, Some, slice_get}
use Rattle.lk_rulebook.specs.Scan.{AreNew}
use Rattle.lk_rulebook.specs.Units.{LibraryUnit, Library, members_of}

-- no unit before unit n gives a name that one before it gives, or one name twice
abbrev pub NamesAreNew : Library → ℕ → Type 0
NamesAreNew us n = (m : ℕ) (u : LibraryUnit) → m < n → slice_get us m ≡ Some u → AreNew us m (members_of u)
