use Rattle.std.proofs.Common.{length}
use Rattle.lk_members.specs.Finishing.{blocks_at}
use Rattle.lk_members.proofs.Alone.{AreKinds}
use Rattle.lk_members.proofs.kinds.kinds_at.Given as goal

abbrev pub invariant-loop-line : goal.invariant-loop-line
invariant-loop-line l = AreKinds l.lines l.rest (blocks_at l.ends) l.kinds.items

abbrev pub decreases-loop-line : goal.decreases-loop-line
decreases-loop-line l = length l.rest
