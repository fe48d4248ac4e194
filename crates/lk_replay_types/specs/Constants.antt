-- What the entry of a constant states.
use Rattle.std.specs.Prelude.{nat_eq, List, length, Option}
use Rattle.lk_tree.specs.Tree.{Level, Tree}
use Rattle.lk_tree.specs.Levels.{put_levels}
use Rattle.lk_rulebook.specs.Place.{Entry}
use Rattle.lk_questions.specs.Tests.{◌>>=◌, test}
use Rattle.lk_written.specs.Premises.{Left}
use Rattle.lk_written.specs.Typing.{comes_to}

-- T is the type of g at these levels, which are as many as its level parameters
abbrev pub const_by : Left → Entry → List Level → Tree → Option (Unit {0})
const_by js g ls T = do
  u ← test (nat_eq (length ls) (length g.levels))
  comes_to T (put_levels g.levels ls g.type) js
