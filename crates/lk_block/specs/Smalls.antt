-- Whether one field keeps a block from being eliminated into every universe.
use Rattle.std.specs.Prelude.{List, Bool, ◌||◌}
use Rattle.lk_tree.specs.Tree.{Level, Tree, zero_level, succ_level}
use Rattle.lk_tree.specs.Level.{is_zero_level}
use Rattle.lk_tree.specs.LevelTest.{level_le_test}
use Rattle.lk_questions.specs.Program.{Program, done, ◌>>=◌}
use Rattle.lk_questions.specs.Steps.{sort_of}
use Rattle.lk_questions.specs.Levels.{tested}
use Rattle.lk_inductive.specs.Block.{domain}
use Rattle.lk_inductive.specs.BlockSteps.{is_among}

-- the field is a proof, or it is one of the indices
abbrev pub small_form : List Tree → Tree → Program Bool
small_form is x = sort_of (domain x) >>= λ s. done (is_zero_level s || is_among x is)

-- the level is above 0 under every assignment
abbrev pub above_form : Level → Program Bool
above_form l = tested (level_le_test (succ_level zero_level) l)
