-- Programs that look at the shapes of Nat and String ask nothing.
use Rattle.std.proofs.Common.{Bool, false, ◌&&◌, nat_eq, length, Option, Some, None}
use Rattle.lk_tree.specs.Tree.{zero_level, succ_level, Tree, sort}
use Rattle.lk_tree.specs.LevelTest.{level_test}
use Rattle.lk_tree.specs.declared.rule.Rule.TheVariants.{BuiltinShape}
use Rattle.lk_rulebook.specs.Place.{Entry, Kind, a_type}
use Rattle.lk_questions.specs.Program.{done}
use Rattle.lk_questions.specs.Steps.{given}
use Rattle.lk_questions.specs.Levels.{tested}
use Rattle.lk_questions.specs.Shapes.{is_sort_one, are_nat_ctors, nat_shape_by, nat_shape, has_string_shape, string_shape}
use Rattle.lk_table_sound.proofs.Soundness.{IsQuiet, quiet_bind, quiet_given, quiet_if}

quiet_tested : (o : Option Bool) → IsQuiet (tested o)
quiet_tested (Some b) = tt
quiet_tested None = tt

quiet_sort_one : (e : Tree) → IsQuiet (is_sort_one e)
quiet_sort_one (sort l) = quiet_tested (level_test l (succ_level zero_level))
quiet_sort_one _ = tt

quiet_nat_by : (g : Entry) (k : Kind) → IsQuiet (nat_shape_by g k)
quiet_nat_by g (a_type block t) =
    quiet_given _ BuiltinShape _ (quiet_bind (is_sort_one g.type) (λ one. given (one && are_nat_ctors t.ctors) BuiltinShape (done tt)) (quiet_sort_one g.type) (λ one. quiet_given (one && are_nat_ctors t.ctors) BuiltinShape (done tt) tt))
quiet_nat_by g _ = tt

quiet_string_by : (g : Entry) (k : Kind) → IsQuiet (has_string_shape g k)
quiet_string_by g (a_type block t) = quiet_if (nat_eq (length block.types) 1 && nat_eq (length g.levels) 0) (is_sort_one g.type) (done false) (quiet_sort_one g.type) tt
quiet_string_by g _ = tt

pub quiet_nat : IsQuiet nat_shape
quiet_nat = λ g. quiet_nat_by g g.kind

pub quiet_string : IsQuiet string_shape
quiet_string = λ g. quiet_bind (has_string_shape g g.kind) (λ has. given has BuiltinShape (done tt)) (quiet_string_by g g.kind) (λ has. quiet_given has BuiltinShape (done tt) tt)
