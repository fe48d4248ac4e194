-- The sorts of a domain and a codomain.
use Rattle.std.specs.Prelude.{List, Option}
use Rattle.lk_tree.specs.Tree.{imax_level, Level, Tree, sort}
use Rattle.lk_rulebook.specs.Claims.{Claim}
use Rattle.lk_questions.specs.Tests.{◌>>=◌}
use Rattle.lk_written.specs.Premises.{Left}
use Rattle.lk_written.specs.Typing.{comes_to}
use Rattle.lk_store.specs.Contents.{Contents, level_at}
use Rattle.lk_replay_types.specs.Parts.{sorts_read}
use Rattle.lk_replay_types.specs.declared.pis.Sorts.{Sorts}

abbrev pub sorts_at : Contents → Sorts → (Level × Level) × Left
sorts_at c s = ((level_at c s.domain, level_at c s.codomain), s.after.now)

-- T is the sort of functions from A to B
abbrev pub pi_opened : List Claim → Left → Tree → Tree → Tree → Option (Unit {0})
pi_opened ps js A B T = do
  s ← sorts_read ps js A B
  comes_to T (sort (imax_level s.0.0 s.0.1)) s.1
