-- Auxiliary types of a block that is at work, beside a library: each is a block of its own, of that
-- one type, without constructors.
use Rattle.std.specs.Prelude.{◌≡◌, ℕ, List, [], ◌∷◌, ◌++◌, Option, Some, None, length, All}
use Rattle.lk_tree.specs.Tree.{Name}
use Rattle.lk_rulebook.specs.Place.{Entry as PlainEntry, Place, BlockType as PlainType}
use Rattle.lk_rulebook.specs.Units.{Members, LibraryUnit, of_block, given_by}
use Rattle.lk_store.specs.Contents.{Contents, tree_at}
use Rattle.lk_store.specs.Store.{contents_of}
use Rattle.lk_env.specs.declared.entry.Entry.{Entry}
use Rattle.lk_env.specs.declared.entry.Partial.{Partial}
use Rattle.lk_env.specs.declared.entry.Partial.TheVariants.{Nothing, Types, Members as AllMembers}
use Rattle.lk_env.specs.declared.entry.Site.{Site}
use Rattle.lk_env.specs.declared.unit.Block.{Block}
use Rattle.lk_env.specs.declared.unit.BlockType.{BlockType}
use Rattle.lk_env.specs.declared.unit.Unit.{Unit as StoredUnit}
use Rattle.lk_env.specs.declared.unit.Unit.TheVariants as unit
use Rattle.lk_env.specs.Entries.{entry_of, plain_entry, IsEntryIn}
use Rattle.lk_env.specs.Places.{partial_of, place_beside}
use Rattle.lk_env.specs.Units.{unit_at, type_at, IsTypeIn, IsUnitIn}
use Rattle.lk_env.specs.StoredScope.{StoredScope}

-- what these units give as they are partial
abbrev pub auxiliary_members : Contents → List StoredUnit → Members
auxiliary_members c [] = []
auxiliary_members c (u ∷ us) = partial_of (unit_at c u) Types ++ auxiliary_members c us

-- what names mean at a site
abbrev pub place_in : StoredScope → Site → Place
place_in l s = place_beside l.library s (auxiliary_members (contents_of l.tables) l.auxiliary)

-- of whose own unit no more than types are partial
abbrev pub only_types : Partial → Partial
only_types Nothing = Nothing
only_types Types = Types
only_types AllMembers = Types

abbrev pub of_types : Site → Site
of_types s = record { unit = s.unit; partial = only_types s.partial }

-- what a type gives that is a block alone, without constructors
abbrev pub bare : PlainType → PlainType
bare t = record t { ctors = [] }

abbrev pub as_alone : PlainType → LibraryUnit
as_alone t = of_block (record { types = bare t ∷ [] }) []

abbrev pub alone_members : List PlainType → Members
alone_members [] = []
alone_members (t ∷ ts) = partial_of (as_alone t) Types ++ alone_members ts

-- a unit is a block of one type
pub record IsAlone (u : StoredUnit) : Type 0 where
  pub block : Block
  pub type : BlockType
  pub is : u ≡ unit.Block block
  pub types : block.types.items ≡ type ∷ []

abbrev pub AreAlone : List StoredUnit → Type 0
AreAlone us = All IsAlone us

-- a unit is this type as a block alone, without constructors
pub record IsAloneOf (t : BlockType) (u : StoredUnit) : Type 0 where
  pub alone : IsAlone u
  pub is : (c : Contents) → unit_at c u ≡ as_alone (type_at c t)
  pub known : (c : Contents) → IsTypeIn c t → IsUnitIn c u

abbrev pub AreAloneOf : List BlockType → List StoredUnit → Type 0
AreAloneOf [] [] = Unit {0}
AreAloneOf (t ∷ ts) (u ∷ us) = IsAloneOf t u × AreAloneOf ts us
AreAloneOf [] (u ∷ us) = ⊥
AreAloneOf (t ∷ ts) [] = ⊥

-- the entry stands for what these units give the name, behind any so many others
abbrev pub AnswersAmong : Contents → ℕ → List StoredUnit → Name → Option Entry → Type 0
AnswersAmong c first us x None = given_by (auxiliary_members c us) x ≡ None
AnswersAmong c first us x (Some e) =
    (p : PlainEntry) × (given_by (auxiliary_members c us) x ≡ Some p) × IsEntryIn c e
    × ((before : List StoredUnit) → length before ≡ first → plain_entry c (before ++ us) e ≡ Some p)

-- the same of one unit
abbrev pub AnswersAlone : Contents → StoredUnit → Name → Option Entry → Type 0
AnswersAlone c u x None = given_by (partial_of (unit_at c u) Types) x ≡ None
AnswersAlone c u x (Some e) =
    (p : PlainEntry) × (given_by (partial_of (unit_at c u) Types) x ≡ Some p)
    × (entry_of c (unit_at c u) e.kind (tree_at c e.stated) ≡ Some p) × IsEntryIn c e
