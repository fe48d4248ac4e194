use Rattle.std.proofs.Common.{length}
use Rattle.std.specs.List.{flat_map}
use Rattle.lk_env.specs.Units.{recursor_at, IsRecursorIn}
use Rattle.lk_members.specs.Stored.{lines_of}
use Rattle.lk_members.specs.Indices as indices
use Rattle.lk_members.proofs.Gathering.{IsUnderWay}
use Rattle.lk_members.proofs.members.Members.group_made.Given as goal

abbrev pub invariant-loop-place : goal.invariant-loop-place
invariant-loop-place l =
    let here = indices.recursor_at (lines_of l.self.lines.items) l.types in
    IsUnderWay recursor_at recursor_at IsRecursorIn l.self.lines.items (flat_map here l.rest) (flat_map here l.places) l.made.items

abbrev pub decreases-loop-place : goal.decreases-loop-place
decreases-loop-place l = length l.rest
