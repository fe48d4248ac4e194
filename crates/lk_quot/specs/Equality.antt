-- What is read of an entry that may be Eq.
use Rattle.std.specs.Prelude.{ℕ, ◌<◌, Bool, false, ◌&&◌, List, [], ◌∷◌, length, Option, Some, None}
use Rattle.lk_rulebook.specs.Names.{eq_refl}
use Rattle.lk_tree.specs.Mentions.{same_name}
use Rattle.lk_questions.specs.QuotientUnits.{is_eq_type, is_refl_type}
use Rattle.lk_store.specs.Contents.{Contents, name_at, tree_at}
use Rattle.lk_env.specs.declared.unit.BlockType.{BlockType}
use Rattle.lk_quot.specs.declared.equality.ReflShape.{ReflShape}
use Rattle.lk_quot.specs.declared.equality.EqShape.{EqShape}

abbrev pub constructor_count : BlockType → ℕ
constructor_count t = length t.constructors.items

-- the constructor is Eq.refl
abbrev pub is_refl_shape : Contents → Option ReflShape → Bool
is_refl_shape c None = false
is_refl_shape c (Some p) =
    same_name (name_at c p.name) eq_refl
    && is_refl_type (name_at c p.level ∷ []) (tree_at c p.ty)

-- the type is Eq, and its only constructor Eq.refl
abbrev pub is_eq_shape : Contents → Option EqShape → Bool
is_eq_shape c None = false
is_eq_shape c (Some p) =
    is_eq_type (name_at c p.level ∷ []) (tree_at c p.ty) && is_refl_shape c (Some p.constructor)

-- the numbers are those of the store
pub record IsReflShapeIn (c : Contents) (p : ReflShape) : Type 0 where
  pub name_in : p.name < length c.names
  pub level_in : p.level < length c.names
  pub ty_in : p.ty < length c.trees

pub record IsEqShapeIn (c : Contents) (p : EqShape) : Type 0 where
  pub level_in : p.level < length c.names
  pub ty_in : p.ty < length c.trees
  pub constructor_in : IsReflShapeIn c p.constructor
