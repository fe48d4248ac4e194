-- Structures, by numbers, and what a kind is as the constructor of one.
use Rattle.std.specs.Prelude.{◌≡◌, ◌<◌, ◌&&◌, ℕ, nat_eq, List, [], ◌∷◌, Bool, true, false, length, Option, Some, None, if◌then◌else◌}
use Rattle.lk_rulebook.specs.Place.{Kind as PlainKind, Block as PlainBlock, BlockType as PlainType, Ctor, a_type, a_ctor}
use Rattle.lk_rulebook.specs.Structures.{is_structure_like}
use Rattle.lk_store.specs.Contents.{Contents, name_at}
use Rattle.lk_env.specs.declared.unit.Constructor.{Constructor}
use Rattle.lk_mentions.specs.declared.structures.Structure.{Structure}

abbrev pub is_alone : List Ctor → Bool
is_alone (c ∷ []) = true
is_alone [] = false
is_alone (c ∷ d ∷ cs) = false

abbrev pub structure_by : PlainBlock → PlainType → Ctor → Option (PlainType × Ctor)
structure_by b t k = if is_alone t.ctors && is_structure_like b t k then Some (t, k) else None

-- the type and the constructor, where the kind is the only constructor of a structure-like type
abbrev pub structure_in : PlainKind → Option (PlainType × Ctor)
structure_in (a_ctor b t k) = structure_by b t k
structure_in _ = None

-- the number of parameters of a type with just this constructor, where it is a structure without fields
abbrev pub unit_with : PlainBlock → PlainType → Ctor → Option ℕ
unit_with b t k = if is_structure_like b t k && nat_eq k.fields 0 then Some t.parameters else None

abbrev pub unit_by : PlainBlock → PlainType → List Ctor → Option ℕ
unit_by b t (k ∷ []) = unit_with b t k
unit_by b t [] = None
unit_by b t (k ∷ j ∷ ks) = None

abbrev pub unit_in : PlainKind → Option ℕ
unit_in (a_type b t) = unit_by b t t.ctors
unit_in _ = None

-- the numbers stand for it
pub record IsStructure (c : Contents) (s : Structure) (p : PlainType × Ctor) : Type 0 where
  pub inductive_in : s.inductive < length c.names
  pub inductive_is : name_at c s.inductive ≡ p.0.name
  pub parameters_are : s.parameters ≡ p.1.parameters
  pub fields_are : s.fields ≡ p.1.fields

-- the one is there exactly where the other is
abbrev pub IsStructureIf : Contents → Option Structure → Option (PlainType × Ctor) → Type 0
IsStructureIf c None None = Unit {0}
IsStructureIf c (Some s) (Some p) = IsStructure c s p
IsStructureIf c (Some s) None = ⊥
IsStructureIf c None (Some p) = ⊥
