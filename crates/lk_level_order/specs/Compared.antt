-- What is asked of two levels.
use Rattle.std.specs.Prelude.{ℕ, ◌≤◌, Bool, Option, List, length, take, ◌++◌}
use Rattle.lk_tree.specs.Tree.{Name, Level}
use Rattle.lk_tree.specs.LevelTest.{params_of, right_params, level_test, level_le_test}
use Rattle.lk_level_order.specs.declared.relation.Relation.{Relation}
use Rattle.lk_level_order.specs.declared.compared.LevelError.{LevelError}
use Rattle.lk_level_order.specs.declared.compared.LevelError.TheVariants.{Width, NoMemory}
use Rattle.lk_level_order.specs.declared.relation.Relation.TheVariants.{Equal, AtMost}
use Rattle.lk_level_order.specs.Parameters.{IsWithin, AreDifferent}

-- the plain test
abbrev pub compared_by : Relation → Level → Level → Option Bool
compared_by Equal l m = level_test l m
compared_by AtMost l m = level_le_test l m

-- the parameters of two levels, each once; first, and k of them, those inside right sides
pub record HasParameters (ns : List Name) (k : ℕ) (l m : Level) : Type 0 where
  pub different : AreDifferent ns
  pub within : k ≤ length ns
  pub left : IsWithin (params_of l) ns
  pub right : IsWithin (params_of m) ns
  pub only_rights : IsWithin (take k ns) (right_params l ++ right_params m)
  pub all_rights : IsWithin (right_params l ++ right_params m) (take k ns)

-- what is known where the levels are too wide
abbrev pub OnWidth : LevelError → Type 0 → Type 0
OnWidth Width P = P
OnWidth NoMemory P = Unit {0}
