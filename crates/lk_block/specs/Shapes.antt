-- What a shape stands for, by the numbers of a store.
use Rattle.std.specs.Prelude.{ℕ, ◌<◌, List, length, map, All}
use Rattle.lk_store.specs.Contents.{Contents, name_at, level_at, tree_at}
use Rattle.lk_inductive.specs.Block as plain
use Rattle.lk_block.specs.declared.shape.Recursion.{Recursion}
use Rattle.lk_block.specs.declared.shape.FieldKind.{FieldKind}
use Rattle.lk_block.specs.declared.shape.FieldKind.TheVariants.{Plain, Recursive}
use Rattle.lk_block.specs.declared.shape.Field.{Field}
use Rattle.lk_block.specs.declared.shape.ConstructorShape.{ConstructorShape}
use Rattle.lk_block.specs.declared.shape.TypeShape.{TypeShape}
use Rattle.lk_block.specs.declared.shape.Shape.{Shape}

abbrev pub kind_at : Contents → FieldKind → plain.FieldKind
kind_at c Plain = plain.plain
kind_at c (Recursive r) = plain.recursive (map (tree_at c) r.arguments.items) (name_at c r.name) (map (tree_at c) r.indices.items)

abbrev pub field_at : Contents → Field → plain.Field
field_at c f = record { variable = tree_at c f.variable; kind = kind_at c f.kind }

abbrev pub constructor_shape_at : Contents → ConstructorShape → plain.CtorShape
constructor_shape_at c s = record { name = name_at c s.name; fields = map (field_at c) s.fields.items; indices = map (tree_at c) s.indices.items }

abbrev pub type_shape_at : Contents → TypeShape → plain.TypeShape
type_shape_at c s = record { name = name_at c s.name; indices = map (tree_at c) s.indices.items; ctors = map (constructor_shape_at c) s.constructors.items }

abbrev pub shape_at : Contents → Shape → plain.Shape
shape_at c s = record {
  levels = map (name_at c) s.levels.items;
  params = map (tree_at c) s.parameters.items;
  sort = level_at c s.sort;
  types = map (type_shape_at c) s.types.items;
  large = s.large;
}

-- numbers of trees
abbrev pub AreTreesIn : Contents → List ℕ → Type 0
AreTreesIn c xs = All (λ x. x < length c.trees) xs

-- whatever has them is of the store: its names, levels and trees are
pub record IsRecursionIn (c : Contents) (r : Recursion) : Type 0 where
  pub arguments_in : AreTreesIn c r.arguments.items
  pub name_in : r.name < length c.names
  pub indices_in : AreTreesIn c r.indices.items

abbrev pub IsKindIn : Contents → FieldKind → Type 0
IsKindIn c Plain = Unit {0}
IsKindIn c (Recursive r) = IsRecursionIn c r

pub record IsFieldIn (c : Contents) (f : Field) : Type 0 where
  pub variable_in : f.variable < length c.trees
  pub kind_in : IsKindIn c f.kind

pub record IsConstructorShapeIn (c : Contents) (s : ConstructorShape) : Type 0 where
  pub name_in : s.name < length c.names
  pub fields_in : All (IsFieldIn c) s.fields.items
  pub indices_in : AreTreesIn c s.indices.items

pub record IsTypeShapeIn (c : Contents) (s : TypeShape) : Type 0 where
  pub name_in : s.name < length c.names
  pub indices_in : AreTreesIn c s.indices.items
  pub constructors_in : All (IsConstructorShapeIn c) s.constructors.items

pub record IsShapeIn (c : Contents) (s : Shape) : Type 0 where
  pub levels_in : All (λ n. n < length c.names) s.levels.items
  pub parameters_in : AreTreesIn c s.parameters.items
  pub sort_in : s.sort < length c.levels
  pub types_in : All (IsTypeShapeIn c) s.types.items
