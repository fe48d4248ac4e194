use Rattle.std.proofs.Common.{◌≡◌, take, false}
use Rattle.std.specs.List.{list_any}
use Rattle.lk_members.specs.Stored.{lines_of}
use Rattle.lk_members.specs.Finishing.{lacks_ctor}
use Rattle.lk_members.proofs.members.Members.lacks_constructor.Given as goal

abbrev pub invariant-loop-name : goal.invariant-loop-name
invariant-loop-name l = list_any (lacks_ctor (lines_of l.self.lines.items) l.under) (take l.name-index l.names) ≡ false
