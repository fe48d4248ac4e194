use Rattle.std.proofs.Common.{◌≡◌, ◌++◌, length}
use Rattle.lk_recheck.specs.Stale.{either}
use Rattle.lk_recheck.proofs.stale.set_in_either.Given as goal

abbrev pub invariant-loop-mark : goal.invariant-loop-mark
invariant-loop-mark l = l.marks.items ++ either l.rest l.others ≡ either l.first l.second

abbrev pub decreases-loop-mark : goal.decreases-loop-mark
decreases-loop-mark l = length l.rest
