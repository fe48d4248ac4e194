-- What it is for a unit to be good: its scan holds, and it is derived at its own place, from the units before it.
use Rattle.std.specs.Prelude.{ℕ, ◌≡◌, List, [], ◌∷◌, Some, slice_get}
use Rattle.lk_rulebook.specs.Place.{Block, BlockRecursor}
use Rattle.lk_rulebook.specs.Units.{Decl, LibraryUnit, of_decl, of_block, Library, place_of, Members, members_of, Trees, trees_of}
use Rattle.lk_rulebook.specs.Scan.{IsScanned}
use Rattle.lk_rulebook.specs.Derived.{DeclDerived}
use Rattle.lk_inductive.specs.Block.{Shape}
use Rattle.lk_inductive.specs.Whole.{BlockDerived}
use Rattle.lk_inductive.specs.NestedRelation.{NestedDerived, IsMarked, Clear}

-- u is derived as unit n: a declaration by its type and value, a block by its types, constructors and recursors, with nested
-- occurrences by those of a larger block
pub data UnitDerived (us : Library) (n : ℕ) : LibraryUnit → Type 0 where
  declaration : {d : Decl} → DeclDerived (place_of us n []) d → UnitDerived us n (of_decl d)
  block : {b : Block} {rs : List BlockRecursor} {s : Shape} → BlockDerived (place_of us n) b rs s → UnitDerived us n (of_block b rs)
  nested : {b : Block} {rs : List BlockRecursor} {s : Shape} → NestedDerived (place_of us n) b rs s → UnitDerived us n (of_block b rs)

-- no member, and no constant of a tree, has a name that only auxiliary types and their constructors have
abbrev pub NamesClear : Members → Type 0
NamesClear [] = Unit {0}
NamesClear (m ∷ ms) = (IsMarked m.0 → ⊥) × NamesClear ms

abbrev pub AllClear : Trees → Type 0
AllClear [] = Unit {0}
AllClear (e ∷ es) = Clear e.1 × AllClear es

pub record IsClearUnit (u : LibraryUnit) : Type 0 where
  pub names : NamesClear (members_of u)
  pub trees : AllClear (trees_of u)

-- unit n is good
pub record IsGoodUnit (us : Library) (n : ℕ) : Type 0 where
  pub unit : LibraryUnit
  pub given : slice_get us n ≡ Some unit
  pub scanned : IsScanned us n unit
  pub clear : IsClearUnit unit
  pub derived : UnitDerived us n unit

-- each unit is clear, as in each library that is read, since no line spells LF
abbrev pub IsClearLibrary : Library → Type 0
IsClearLibrary [] = Unit {0}
IsClearLibrary (u ∷ us) = IsClearUnit u × IsClearLibrary us
