use Rattle.std.proofs.Common.{◌≡◌, length, map, All}
use Rattle.lk_nested.specs.Marks.{AreMarked}
use Rattle.lk_nested.specs.Nestings.{AreWalked}
use Rattle.lk_env.specs.Units.{type_at, IsTypeIn}
use Rattle.lk_mentions.specs.Names.{names_at}
use Rattle.lk_enlarge.specs.Larger.{types_hold}
use Rattle.lk_enlarge.proofs.larger.types_hold.Given as goal

abbrev pub invariant-types : goal.invariant-types
invariant-types g l =
    let c = g.A.Terms.contents l.asks in
    let w = (g.A.Asks.standing l.asks).place in
    let ns = names_at c l.names in
    record {
      marked : AreMarked c ns l.marks;
      walked : AreWalked w c l.names l.walked;
      left_in : All (IsTypeIn c) l.left;
      leads : types_hold w ns (map (type_at c) l.types) ≡ types_hold w ns (map (type_at c) l.left);
    }

abbrev pub decreases-types : goal.decreases-types
decreases-types g l = length l.left
