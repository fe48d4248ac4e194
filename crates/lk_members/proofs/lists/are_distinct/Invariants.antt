use Rattle.std.proofs.Common.{length}
use Rattle.lk_members.proofs.Looking.{Looked}
use Rattle.lk_members.proofs.lists.are_distinct.Given as goal

-- the names that were looked at are different, and are what was seen
abbrev pub invariant-loop-name : goal.invariant-loop-name
invariant-loop-name l = Looked l.seen l.rest l.names

abbrev pub decreases-loop-name : goal.decreases-loop-name
decreases-loop-name l = length l.rest
