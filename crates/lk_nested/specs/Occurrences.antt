-- Whether an application is a nested occurrence.
use Rattle.std.specs.Prelude.{Bool, true, false, ◌||◌, List, length, Option, Some, None, nat_eq, if◌then◌else◌}
use Rattle.lk_tree.specs.Tree.{Name, Level, Tree, const, app}
use Rattle.lk_tree.specs.Spine.{head, args}
use Rattle.lk_tree.specs.Mentions.{is_one_of}
use Rattle.lk_tree.specs.declared.rule.Rule.{Rule}
use Rattle.lk_tree.specs.declared.rule.Rule.TheVariants.{UnknownConstant}
use Rattle.lk_rulebook.specs.Place.{Place, Entry, Kind, Block, BlockType, a_type}
use Rattle.lk_questions.specs.Answer.{refusal}
use Rattle.lk_inductive.specs.BlockSteps.{mention_none}

-- it is none, and its parts are looked at; it is one, of the type J at ls, which has this block and this line; or J is refused
pub data Test : Type 0 where
  passes : Test
  occurs : Name → List Level → Block → BlockType → Test
  fails : Rule → Test

-- J is a type with as many parameters as there are arguments
abbrev pub kind_test : Name → List Level → List Tree → Kind → Test
kind_test J ls xs (a_type b t) = if nat_eq (length xs) t.parameters then occurs J ls b t else passes
kind_test J ls xs _ = passes

abbrev pub entry_test : Name → List Level → List Tree → Option Entry → Option Rule → Test
entry_test J ls xs None flaw = fails (refusal UnknownConstant flaw)
entry_test J ls xs (Some g) flaw = kind_test J ls xs g.kind

-- J is no type of the block, and an argument mentions one
abbrev pub head_test : Place → List Name → Tree → List Tree → Test
head_test w ns (const J ls) xs = if is_one_of ns J || mention_none ns xs then passes else entry_test J ls xs (w.means J) (w.flaw J)
head_test w ns _ xs = passes

abbrev pub test_at : Place → List Name → Tree → Test
test_at w ns (app f a) = head_test w ns (head (app f a)) (args (app f a))
test_at w ns _ = passes

abbrev pub is_occurrence : Test → Bool
is_occurrence passes = false
is_occurrence (occurs J ls b t) = true
is_occurrence (fails r) = false
