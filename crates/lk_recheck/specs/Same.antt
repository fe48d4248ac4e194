-- Units that have the same numbers in all that a library states of them.
use Rattle.std.specs.Prelude.{◌≡◌, []}
use Rattle.std.specs.List.{AllZip}
use Rattle.lk_tree.specs.Tree.{wide}
use Rattle.lk_store.specs.Values.{AreApart}
use Rattle.lk_store.specs.Contents.{Contents}
use Rattle.lk_env.specs.declared.unit.Declaration.{Declaration}
use Rattle.lk_env.specs.declared.unit.Constructor.{Constructor}
use Rattle.lk_env.specs.declared.unit.BlockType.{BlockType}
use Rattle.lk_env.specs.declared.unit.RecursorRule.{RecursorRule}
use Rattle.lk_env.specs.declared.unit.Recursor.{Recursor}
use Rattle.lk_env.specs.declared.unit.Block.{Block}
use Rattle.lk_env.specs.declared.unit.Unit.{Unit as StoredUnit}
use Rattle.lk_env.specs.declared.unit.Unit.TheVariants as unit
use Rattle.lk_env.specs.Units.{declared_levels}

pub record SameDeclaration (a b : Declaration) : Type 0 where
  pub name : a.name ≡ b.name
  pub levels : declared_levels a ≡ declared_levels b
  pub ty : a.ty ≡ b.ty
  pub body : a.body ≡ b.body

pub record SameConstructor (a b : Constructor) : Type 0 where
  pub name : a.name ≡ b.name
  pub levels : a.levels.items ≡ b.levels.items
  pub ty : a.ty ≡ b.ty
  pub parent : a.parent ≡ b.parent
  pub place : a.place ≡ b.place
  pub parameters : a.parameters ≡ b.parameters
  pub fields : a.fields ≡ b.fields

pub record SameType (a b : BlockType) : Type 0 where
  pub name : a.name ≡ b.name
  pub levels : a.levels.items ≡ b.levels.items
  pub ty : a.ty ≡ b.ty
  pub parameters : a.parameters ≡ b.parameters
  pub indices : a.indices ≡ b.indices
  pub constructors : AllZip SameConstructor a.constructors.items b.constructors.items

pub record SameRule (a b : RecursorRule) : Type 0 where
  pub constructor : a.constructor ≡ b.constructor
  pub fields : a.fields ≡ b.fields
  pub value : a.value ≡ b.value

pub record SameRecursor (a b : Recursor) : Type 0 where
  pub name : a.name ≡ b.name
  pub levels : a.levels.items ≡ b.levels.items
  pub ty : a.ty ≡ b.ty
  pub parameters : a.parameters ≡ b.parameters
  pub indices : a.indices ≡ b.indices
  pub motives : a.motives ≡ b.motives
  pub minors : a.minors ≡ b.minors
  pub k : a.k ≡ b.k
  pub rules : AllZip SameRule a.rules.items b.rules.items

pub record SameBlock (a b : Block) : Type 0 where
  pub types : AllZip SameType a.types.items b.types.items
  pub recursors : AllZip SameRecursor a.recursors.value.items b.recursors.value.items

abbrev pub SameUnit : StoredUnit → StoredUnit → Type 0
SameUnit (unit.Declaration a) (unit.Declaration b) = SameDeclaration a b
SameUnit (unit.Block a) (unit.Block b) = SameBlock a b
SameUnit (unit.Declaration a) (unit.Block b) = ⊥
SameUnit (unit.Block a) (unit.Declaration b) = ⊥

-- equal names have one number, and so have equal trees
pub record StandsOnce (c : Contents) : Type 0 where
  pub names : AreApart [] c.names
  pub trees : AreApart wide c.trees
