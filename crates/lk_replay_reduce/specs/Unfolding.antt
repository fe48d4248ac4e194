-- Constants unfolded by their values.
use Rattle.std.specs.Prelude.{nat_eq, List, length, Option}
use Rattle.lk_tree.specs.Tree.{Name, Level, Tree}
use Rattle.lk_tree.specs.Levels.{put_levels}
use Rattle.lk_rulebook.specs.Place.{Entry}
use Rattle.lk_questions.specs.Steps.{value_of}
use Rattle.lk_questions.specs.Tests.{◌>>=◌, test}
use Rattle.lk_written.specs.Premises.{Left}
use Rattle.lk_premises.specs.Applied.{applied_to}

-- b is the value v of these level parameters at these levels, as many, with the arguments of a
abbrev pub unfolds_to : Left → List Name → List Level → Tree → Tree → Tree → Option (Unit {0})
unfolds_to js ps ls v a b = do
  u ← test (nat_eq (length ls) (length ps))
  applied_to js (put_levels ps ls v) a b

abbrev pub unfolds : Left → Entry → List Level → Tree → Tree → Option (Unit {0})
unfolds js g ls a b = do
  v ← value_of g.kind
  unfolds_to js g.levels ls v a b
