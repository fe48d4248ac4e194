-- A unit that is derived.
use Rattle.std.specs.Prelude.{◌≡◌, ℕ, [], Some, slice_get}
use Rattle.lk_rulebook.specs.Derived.{DeclDerived}
use Rattle.lk_rulebook.specs.Scan.{IsScanned}
use Rattle.lk_rulebook.specs.Units.{Decl, of_decl, Library, place_of}

-- unit n is a declaration whose names are new and whose scan holds, and it is derived from the units
-- before it, with the laws of the operation that it is named as, where that has laws
abbrev pub IsDerivedUnit : Library → ℕ → Type 0
IsDerivedUnit us n =
    (d : Decl) × (slice_get us n ≡ Some (of_decl d)) × IsScanned us n (of_decl d)
    × DeclDerived (place_of us n []) d
