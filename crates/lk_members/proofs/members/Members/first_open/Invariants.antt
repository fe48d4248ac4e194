use Rattle.std.proofs.Common.{◌≡◌, nat_eq, length}
use Rattle.lk_members.specs.Faults.{first_open}
use Rattle.lk_members.specs.Stored.{lines_of}
use Rattle.lk_members.proofs.members.Members.first_open.Given as goal

abbrev pub invariant-loop-line : goal.invariant-loop-line
invariant-loop-line l = first_open nat_eq (lines_of l.self.lines.items) (lines_of l.rest) ≡ first_open nat_eq (lines_of l.self.lines.items) (lines_of l.self.lines.items)

abbrev pub decreases-loop-line : goal.decreases-loop-line
decreases-loop-line l = length l.rest
