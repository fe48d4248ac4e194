-- The right side of a rule, applied.
use Rattle.std.specs.Prelude.{List}
use Rattle.lk_tree.specs.Tree.{Level, Tree}
use Rattle.lk_tree.specs.Spine.{apply}
use Rattle.lk_rulebook.specs.Place.{Entry}
use Rattle.lk_questions.specs.Query.{core}
use Rattle.lk_questions.specs.Program.{Program, asked, ◌>>=◌}
use Rattle.lk_questions.specs.Steps.{with_levels}

-- v at levels, applied to what the rules share, to the fields, and to what came behind the major
-- premise
abbrev pub right_side : Entry → List Level → Tree → List Tree → List Tree → List Tree → Program Tree
right_side g ls v shared fields rest = do
  u ← with_levels g ls v
  asked (core (apply (apply (apply u shared) fields) rest))
