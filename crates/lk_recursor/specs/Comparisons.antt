-- A block's own recursors by the numbers of a store, and one of them beside the stated recursor of its name.
use Rattle.std.specs.Prelude.{◌≡◌, ℕ, ◌<◌, List, length, map, All}
use Rattle.lk_tree.specs.Tree.{Tree, param}
use Rattle.lk_tree.specs.declared.rule.Rule.TheVariants.{RecursorDiffers}
use Rattle.lk_questions.specs.Query.{infer, same}
use Rattle.lk_questions.specs.Program.{Program, done, asked, ◌>>=◌}
use Rattle.lk_questions.specs.Steps.{given, sort_of}
use Rattle.lk_questions.specs.Declarations.{Yes, checked}
use Rattle.lk_store.specs.Contents.{Contents, name_at, level_at, tree_at}
use Rattle.lk_env.specs.Units.{recursor_at, IsRecursorIn}
use Rattle.lk_inductive.specs.Block as plain
use Rattle.lk_inductive.specs.Compare.{renamed, rules_steps}
use Rattle.lk_inductive.specs.Recursors.{BlockRecursor, Restoring, rec_name, rec_of, rule_value, is_k}
use Rattle.lk_block.specs.Shapes.{shape_at, constructor_shape_at, type_shape_at, AreTreesIn, IsShapeIn, IsTypeShapeIn}
use Rattle.lk_block.specs.declared.shape.ConstructorShape.{ConstructorShape}
use Rattle.lk_block.specs.declared.shape.TypeShape.{TypeShape}
use Rattle.lk_recursor.specs.Fronts.{IsFront, read_by}
use Rattle.lk_recursor.specs.declared.own.Shared.{Shared}
use Rattle.lk_recursor.specs.declared.own.OwnRecursor.{OwnRecursor}
use Rattle.lk_recursor.specs.declared.own.Comparison.{Comparison}

-- the names of these types' recursors, read back
pub record AreNames (c : Contents) (w : Restoring) (names : List ℕ) (types : List TypeShape) : Type 0 where
  pub known : All (λ n. n < length c.names) names
  pub are : map (name_at c) names ≡ map (λ (t : TypeShape). w.named (rec_name (name_at c t.name))) types

pub record IsShared (c : Contents) (s : Shared) : Type 0 where
  pub shape_in : IsShapeIn c s.shape.now
  pub front_is : IsFront c s.shape.now s.front.now
  pub names_are : AreNames c (read_by c s.shape.now s.front.now) s.names.now s.shape.now.types.items
  pub k_is : s.k ≡ is_k (shape_at c s.shape.now)

abbrev pub own_at : Contents → Restoring → plain.Shape → OwnRecursor → BlockRecursor
own_at c w s r = rec_of w s (map (tree_at c) r.minors.now) (type_shape_at c r.of.now)

pub record IsOwnRecursor (c : Contents) (r : OwnRecursor) : Type 0 where
  pub of_in : IsTypeShapeIn c r.of.now
  pub minors_in : AreTreesIn c r.minors.now

abbrev pub stated_of : Contents → Comparison → BlockRecursor
stated_of c x = recursor_at c x.stated.now

abbrev pub own_of : Contents → Comparison → BlockRecursor
own_of c x = own_at c (read_by c x.shared.shape.now x.shared.front.now) (shape_at c x.shared.shape.now) x.own

pub record IsComparison (c : Contents) (x : Comparison) : Type 0 where
  pub shared_is : IsShared c x.shared
  pub own_is : IsOwnRecursor c x.own
  pub stated_in : IsRecursorIn c x.stated.now
  pub levels_in : All (λ l. l < length c.levels) x.levels.now
  pub levels_are : map (level_at c) x.levels.now ≡ map param (map (name_at c) x.stated.now.levels.items)

-- the type of the block's own recursor, with the stated level parameters
abbrev pub renamed_type : Contents → Comparison → Tree
renamed_type c x = renamed (stated_of c x) (own_of c x) (own_of c x).type

-- the same of the value of a rule, by its minor premise and its constructor
abbrev pub renamed_value : Contents → Comparison → ℕ → ConstructorShape → Tree
renamed_value c x m k = renamed (stated_of c x) (own_of c x) (rule_value (read_by c x.shared.shape.now x.shared.front.now) (shape_at c x.shared.shape.now) (tree_at c m) (constructor_shape_at c k))

-- two trees that are to be the same
abbrev pub same_form : Tree → Tree → Program Yes
same_form a b = asked (same a b) >>= λ equal. given equal RecursorDiffers (done checked)

-- the value of one rule, and the recomputed one
abbrev pub rule_form : Tree → Tree → Program Yes
rule_form a b = asked (infer a) >>= λ V. same_form a b

-- a stated recursor's type and rules against the recomputed ones, past its type's sort
abbrev pub parts_form : BlockRecursor → BlockRecursor → Program Yes
parts_form s r = asked (same s.type (renamed s r r.type)) >>= λ equal. given equal RecursorDiffers (rules_steps s r s.recursor.rules r.recursor.rules)

-- the same, and its type's sort first
abbrev pub trees_form : BlockRecursor → BlockRecursor → Program Yes
trees_form s r = sort_of s.type >>= λ l. parts_form s r
