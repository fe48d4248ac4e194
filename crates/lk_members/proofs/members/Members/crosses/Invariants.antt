use Rattle.std.proofs.Common.{◌≡◌, nat_eq, IfSome, true, false, take}
use Rattle.std.specs.List.{list_any}
use Rattle.lk_members.specs.Lines.{block_of}
use Rattle.lk_members.specs.Faults.{is_other}
use Rattle.lk_members.specs.Stored.{lines_of}
use Rattle.lk_members.specs.Taking.{list_at}
use Rattle.lk_members.proofs.members.Members.crosses.Given as goal

abbrev pub invariant-loop-name : goal.invariant-loop-name
invariant-loop-name l = record {
  none : list_any (λ x. is_other nat_eq (block_of nat_eq (lines_of l.self.lines.items) x) l.types) (take l.name-index l.types) ≡ false;
  equal : IfSome l.equal (λ i. list_at (lines_of l.self.lines.items) i l.types ≡ true);
}
