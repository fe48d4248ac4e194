use Rattle.std.proofs.Common.{length}
use Rattle.lk_members.specs.Stored.{lines_of}
use Rattle.lk_members.proofs.Listing.{IsListing}
use Rattle.lk_members.proofs.open.listed_in.Given as goal

abbrev pub invariant-loop-line : goal.invariant-loop-line
invariant-loop-line l = IsListing (lines_of l.lines) (lines_of l.rest) l.listed

abbrev pub decreases-loop-line : goal.decreases-loop-line
decreases-loop-line l = length l.rest
