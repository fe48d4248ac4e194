use Rattle.std.proofs.Common.{◌≡◌, ◌++◌, length, map}
use Rattle.std.specs.Prelude.{All}
use Rattle.lk_text.specs.Names.{part_at, IsPartIn}
use Rattle.lk_text.specs.Text.{dotted}
use Rattle.lk_text.proofs.names.add_parts.Given as goal

abbrev pub invariant-loop-part : goal.invariant-loop-part
invariant-loop-part g l =
    let c = g.T.Terms.contents l.store in
    record {
      text : l.out.items ++ dotted (map (part_at c) l.rest) ≡ l.fn.out.items ++ dotted (map (part_at c) l.parts);
      known : All (IsPartIn c) l.rest;
    }

abbrev pub decreases-loop-part : goal.decreases-loop-part
decreases-loop-part g l = length l.rest
