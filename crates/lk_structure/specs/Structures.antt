-- Types with exactly one constructor.
use Rattle.std.specs.Prelude.{◌≡◌, List, [], ◌∷◌, length, Option, Some, None}
use Rattle.lk_rulebook.specs.Place.{Entry as PlainEntry, Kind, BlockType as PlainType, Ctor, a_type}
use Rattle.lk_store.specs.Contents.{tree_at}
use Rattle.lk_store.specs.Store.{contents_of}
use Rattle.lk_env.specs.declared.unit.Constructor.{Constructor}
use Rattle.lk_env.specs.StoredLibrary.{StoredLibrary}
use Rattle.lk_env.specs.Entries.{library_entry}
use Rattle.lk_structure.specs.declared.structure.Structure.{Structure}

abbrev pub with_one : PlainType → List Ctor → Option (PlainType × Ctor)
with_one t (k ∷ []) = Some (t, k)
with_one t [] = None
with_one t (k ∷ j ∷ ks) = None

-- the type and its constructor, where the kind is a type with exactly one
abbrev pub structure_in : Kind → Option (PlainType × Ctor)
structure_in (a_type b t) = with_one t t.ctors
structure_in _ = None

-- the numbers stand for it
pub record IsStructure (l : StoredLibrary) (s : Structure)
    (p : PlainType × Ctor) : Type 0 where
  pub parameters_are : s.parameters ≡ p.0.parameters
  pub indices_are : s.indices ≡ p.0.indices
  pub fields_are : s.fields ≡ p.1.fields
  pub entry : PlainEntry
  pub entry_is : library_entry l s.constructor ≡ Some entry
  pub levels_are : entry.levels ≡ p.1.levels
  pub type_is : tree_at (contents_of l.tables) s.constructor.stated ≡ p.1.type

-- the one is there exactly where the other is
abbrev pub IsStructureIf : StoredLibrary → Option Structure → Option (PlainType × Ctor)
    → Type 0
IsStructureIf l None None = Unit {0}
IsStructureIf l (Some s) (Some p) = IsStructure l s p
IsStructureIf l (Some s) None = ⊥
IsStructureIf l None (Some p) = ⊥
