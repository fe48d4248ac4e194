use Rattle.std.proofs.Common.{length}
use Rattle.lk_members.specs.Finishing.{blocks_at}
use Rattle.lk_members.proofs.Finished.{IsGathering}
use Rattle.lk_members.proofs.finish.gather.Given as goal

abbrev pub invariant-loop-line : goal.invariant-loop-line
invariant-loop-line l = IsGathering l.fn.lines.items l.lines.items (blocks_at l.ends) l.units.items

abbrev pub decreases-loop-line : goal.decreases-loop-line
decreases-loop-line l = length l.lines.items
