use Rattle.std.proofs.Common.{nat_eq, length}
use Rattle.lk_env.specs.Units.{constructor_at, IsConstructorIn}
use Rattle.lk_members.specs.Units.{ctors_listed}
use Rattle.lk_members.specs.Stored.{lines_of}
use Rattle.lk_members.proofs.Gathering.{IsUnderWay}
use Rattle.lk_members.proofs.members.Members.constructors_made.Given as goal

abbrev pub invariant-loop-name : goal.invariant-loop-name
invariant-loop-name l =
    let ls = lines_of l.self.lines.items in
    IsUnderWay constructor_at constructor_at IsConstructorIn l.self.lines.items (ctors_listed nat_eq ls l.under l.rest) (ctors_listed nat_eq ls l.under l.names) l.made.items

abbrev pub decreases-loop-name : goal.decreases-loop-name
decreases-loop-name l = length l.rest
