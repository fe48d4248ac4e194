use Rattle.std.proofs.Common.{rules}
use Rattle.lk_env.specs.Units.{recursor_at, IsRecursorIn}
use Rattle.lk_members.specs.Units.{if_any}
use Rattle.lk_members.specs.Stored.{lines_of}
use Rattle.lk_members.specs.Indices as indices
use Rattle.lk_members.proofs.Gathering.{goes_on}
use Rattle.lk_members.proofs.members.Members.group_made.Goals as goal

pub loop-place-preserved : goal.loop-place-preserved
loop-place-preserved c =
    let ls = c.args.self.now.lines.items in
    goes_on recursor_at recursor_at IsRecursorIn ls (indices.recursor_at (lines_of ls) c.args.types.now) c.args.places.now
    c.loop-place.rest.now c.in-Some.more.now c.in-Some.place.now c.loop-place.made.items (if_any c.in_ok-next.next) c.push_any.new.items.items (search rules) (search rules) c.in_ok-next.ensures c.loop-place.invariant
