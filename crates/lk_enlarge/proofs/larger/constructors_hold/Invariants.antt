use Rattle.std.proofs.Common.{◌≡◌, length, map, All}
use Rattle.lk_nested.specs.Marks.{AreMarked}
use Rattle.lk_nested.specs.Nestings.{AreWalked}
use Rattle.lk_env.specs.Units.{constructor_at, IsConstructorIn}
use Rattle.lk_mentions.specs.Names.{names_at}
use Rattle.lk_enlarge.specs.Larger.{ctors_hold}
use Rattle.lk_enlarge.proofs.larger.constructors_hold.Given as goal

abbrev pub invariant-constructors : goal.invariant-constructors
invariant-constructors g l =
    let c = g.A.Terms.contents l.asks in
    let w = (g.A.Asks.standing l.asks).place in
    let ns = names_at c l.names in
    record {
      marked : AreMarked c ns l.marks;
      walked : AreWalked w c l.names l.walked;
      left_in : All (IsConstructorIn c) l.left;
      leads : ctors_hold w ns (map (constructor_at c) l.constructors) ≡ ctors_hold w ns (map (constructor_at c) l.left);
    }

abbrev pub decreases-constructors : goal.decreases-constructors
decreases-constructors g l = length l.left
