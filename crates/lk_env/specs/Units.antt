-- What the units of a library stand for, by the numbers of a store.
use Rattle.std.specs.Prelude.{Vec, ℕ, ◌<◌, List, length, map, All}
use Rattle.std.specs.Arc.{arc_value}
use Rattle.std.specs.declared.sync.Arc.{Arc}
use Rattle.std.specs.declared.alloc.Global.{Global}
use Rattle.lk_rulebook.specs.Place.{Ctor, BlockType as PlainType, Block as PlainBlock, RecRule, BlockRecursor, opaque_hint, abbreviation, regular}
use Rattle.lk_rulebook.specs.Place.{Hint as PlainHint}
use Rattle.lk_rulebook.specs.Units.{Body as PlainBody, as_axiom, as_def, as_thm, as_opaque, as_quot, Decl, LibraryUnit, of_decl, of_block, Library}
use Rattle.lk_store.specs.Contents.{Contents, name_at, tree_at}
use Rattle.lk_store.specs.Store.{contents_of}
use Rattle.lk_env.specs.declared.unit.Hint.{Hint}
use Rattle.lk_env.specs.declared.unit.Hint.TheVariants as hint
use Rattle.lk_env.specs.declared.unit.Body.{Body}
use Rattle.lk_env.specs.declared.unit.Body.TheVariants.{Axiom, Definition, Theorem, Opaque, Quotient}
use Rattle.lk_env.specs.declared.unit.Declaration.{Declaration}
use Rattle.lk_env.specs.declared.unit.Constructor.{Constructor}
use Rattle.lk_env.specs.declared.unit.BlockType.{BlockType}
use Rattle.lk_env.specs.declared.unit.RecursorRule.{RecursorRule}
use Rattle.lk_env.specs.declared.unit.Recursor.{Recursor}
use Rattle.lk_env.specs.declared.unit.Block.{Block}
use Rattle.lk_env.specs.declared.unit.Unit.{Unit as StoredUnit}
use Rattle.lk_env.specs.StoredLibrary.{StoredLibrary}
use Rattle.lk_env.specs.declared.unit.Unit.TheVariants as unit

abbrev pub hint_of : Hint → PlainHint
hint_of hint.Opaque = opaque_hint
hint_of hint.Abbreviation = abbreviation
hint_of (hint.Regular n) = regular n

abbrev pub body_at : Contents → Body → PlainBody
body_at c Axiom = as_axiom
body_at c (Definition h v) = as_def (hint_of h) (tree_at c v)
body_at c (Theorem v) = as_thm (tree_at c v)
body_at c (Opaque v) = as_opaque (tree_at c v)
body_at c Quotient = as_quot

-- the names in a list that is shared
abbrev pub shared_names : Arc (Vec ℕ Global) Global → List ℕ
shared_names kept = (arc_value kept).items

-- the names of a declaration's level parameters
abbrev pub declared_levels : Declaration → List ℕ
declared_levels d = shared_names d.levels

abbrev pub declaration_at : Contents → Declaration → Decl
declaration_at c d = record {
  name = name_at c d.name;
  levels = map (name_at c) (declared_levels d);
  type = tree_at c d.ty;
  body = body_at c d.body;
}

abbrev pub constructor_at : Contents → Constructor → Ctor
constructor_at c k = record {
  name = name_at c k.name;
  levels = map (name_at c) k.levels.items;
  type = tree_at c k.ty;
  parent = name_at c k.parent;
  place = k.place;
  parameters = k.parameters;
  fields = k.fields;
}

abbrev pub type_at : Contents → BlockType → PlainType
type_at c t = record {
  name = name_at c t.name;
  levels = map (name_at c) t.levels.items;
  type = tree_at c t.ty;
  parameters = t.parameters;
  indices = t.indices;
  ctors = map (constructor_at c) t.constructors.items;
}

abbrev pub rule_at : Contents → RecursorRule → RecRule
rule_at c r =
    record { ctor = name_at c r.constructor; fields = r.fields; value = tree_at c r.value }

abbrev pub recursor_at : Contents → Recursor → BlockRecursor
recursor_at c r = record {
  name = name_at c r.name;
  levels = map (name_at c) r.levels.items;
  type = tree_at c r.ty;
  recursor = record {
    parameters = r.parameters;
    indices = r.indices;
    motives = r.motives;
    minors = r.minors;
    k = r.k;
    rules = map (rule_at c) r.rules.items;
  };
}

abbrev pub block_at : Contents → Block → PlainBlock
block_at c b = record { types = map (type_at c) b.types.items }

abbrev pub unit_at : Contents → StoredUnit → LibraryUnit
unit_at c (unit.Declaration d) = of_decl (declaration_at c d)
unit_at c (unit.Block b) = of_block (block_at c b) (map (recursor_at c) b.recursors.value.items)

-- the library that units stand for
abbrev pub library_at : Contents → List StoredUnit → Library
library_at c us = map (unit_at c) us

-- the library of a store's tables and units
abbrev pub library_of : StoredLibrary → Library
library_of l = library_at (contents_of l.tables) l.units

-- the names and trees of these parts are numbers of the store
abbrev pub IsBodyIn : Contents → Body → Type 0
IsBodyIn c Axiom = Unit {0}
IsBodyIn c (Definition h v) = v < length c.trees
IsBodyIn c (Theorem v) = v < length c.trees
IsBodyIn c (Opaque v) = v < length c.trees
IsBodyIn c Quotient = Unit {0}

-- a name, level parameters and a type
pub record IsStatedIn (c : Contents) (name : ℕ) (levels : List ℕ) (ty : ℕ) : Type 0 where
  pub name_in : name < length c.names
  pub levels_in : All (λ n. n < length c.names) levels
  pub ty_in : ty < length c.trees

pub record IsConstructorIn (c : Contents) (k : Constructor) : Type 0 where
  pub stated : IsStatedIn c k.name k.levels.items k.ty
  pub parent_in : k.parent < length c.names

pub record IsTypeIn (c : Contents) (t : BlockType) : Type 0 where
  pub stated : IsStatedIn c t.name t.levels.items t.ty
  pub constructors_in : All (IsConstructorIn c) t.constructors.items

pub record IsRuleIn (c : Contents) (r : RecursorRule) : Type 0 where
  pub constructor_in : r.constructor < length c.names
  pub value_in : r.value < length c.trees

pub record IsRecursorIn (c : Contents) (r : Recursor) : Type 0 where
  pub stated : IsStatedIn c r.name r.levels.items r.ty
  pub rules_in : All (IsRuleIn c) r.rules.items

abbrev pub IsUnitIn : Contents → StoredUnit → Type 0
IsUnitIn c (unit.Declaration d) = IsStatedIn c d.name (declared_levels d) d.ty × IsBodyIn c d.body
IsUnitIn c (unit.Block b) =
    All (IsTypeIn c) b.types.items × All (IsRecursorIn c) b.recursors.value.items

abbrev pub AreUnitsIn : Contents → List StoredUnit → Type 0
AreUnitsIn c us = All (IsUnitIn c) us
