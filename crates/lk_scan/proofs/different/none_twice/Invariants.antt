use Rattle.std.proofs.Common.{length}
use Rattle.lk_store.specs.Store.{contents_of}
use Rattle.lk_scan.proofs.Numbers.{Looked}
use Rattle.lk_scan.proofs.different.none_twice.Given as goal

-- the names that were looked at are different, and are what was seen
abbrev pub invariant-loop-name : goal.invariant-loop-name
invariant-loop-name l = Looked (contents_of l.base) l.seen l.rest l.names

abbrev pub decreases-loop-name : goal.decreases-loop-name
decreases-loop-name l = length l.rest
