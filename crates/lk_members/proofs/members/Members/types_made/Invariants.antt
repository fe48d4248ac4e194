use Rattle.std.proofs.Common.{length}
use Rattle.lk_env.specs.Units.{type_at, IsTypeIn}
use Rattle.lk_members.specs.Stored.{type_stated, lines_of}
use Rattle.lk_members.specs.Finishing.{types_listed}
use Rattle.lk_members.proofs.Gathering.{IsUnderWay}
use Rattle.lk_members.proofs.members.Members.types_made.Given as goal

abbrev pub invariant-loop-name : goal.invariant-loop-name
invariant-loop-name l =
    let ls = lines_of l.self.lines.items in
    IsUnderWay type_at type_stated IsTypeIn l.self.lines.items (types_listed ls l.rest) (types_listed ls l.names) l.made.items

abbrev pub decreases-loop-name : goal.decreases-loop-name
decreases-loop-name l = length l.rest
