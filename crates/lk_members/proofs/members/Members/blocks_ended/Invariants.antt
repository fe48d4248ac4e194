use Rattle.std.proofs.Common.{length}
use Rattle.lk_members.specs.Finishing.{blocks_at}
use Rattle.lk_members.proofs.Finished.{IsEnding}
use Rattle.lk_members.proofs.members.Members.blocks_ended.Given as goal

abbrev pub invariant-loop-line : goal.invariant-loop-line
invariant-loop-line l = IsEnding l.self.lines.items l.rest l.met (blocks_at l.ends)

abbrev pub decreases-loop-line : goal.decreases-loop-line
decreases-loop-line l = length l.rest
