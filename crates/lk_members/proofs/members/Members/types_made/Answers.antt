use Rattle.std.proofs.Common.{ℕ, nat_eq, rules}
use Rattle.lk_env.specs.Units.{type_at, IsTypeIn}
use Rattle.lk_members.specs.Lines.{type_of}
use Rattle.lk_members.specs.Units.{if_any, with_ctors}
use Rattle.lk_members.specs.Stored.{type_stated, lines_of}
use Rattle.lk_members.proofs.Gathering.{goes_on}
use Rattle.lk_members.proofs.members.Members.types_made.Goals as goal

pub loop-name-preserved : goal.loop-name-preserved
loop-name-preserved c =
    let ls = c.args.self.now.lines.items in
    goes_on type_at type_stated IsTypeIn ls (λ (n : ℕ). with_ctors nat_eq (lines_of ls) n (type_of nat_eq (lines_of ls) n)) c.args.names.now
    c.loop-name.rest.now c.in-Some.more.now c.in-Some.name.now c.loop-name.made.items (if_any c.in_ok-next.next) c.push_any.new.items.items (search rules) (search rules) c.in_ok-next.ensures c.loop-name.invariant
