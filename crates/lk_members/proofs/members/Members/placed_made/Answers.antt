use Rattle.std.proofs.Common.{rules}
use Rattle.lk_members.specs.Units.{if_any}
use Rattle.lk_members.proofs.Made.{placed_recursor}
use Rattle.lk_members.proofs.members.Members.placed_made.Goals as goal

pub returns-in_ok-made-in-Some : goal.returns-in_ok-made-in-Some
returns-in_ok-made-in-Some c =
    placed_recursor c.args.self.now.lines.items c.args.types.now c.args.place c.in-Some.line.now (if_any c.in_ok-made-in-Some.made) (search rules) (search rules) c.in_ok-made-in-Some.ensures
