use Rattle.std.proofs.Common.{◌<◌, ℕ, length, map}
use Rattle.std.specs.Prelude.{All}
use Rattle.lk_units.specs.Numbering.{entry}
use Rattle.lk_units.specs.Held.{Below}
use Rattle.lk_units.proofs.Several.{AreFound}
use Rattle.lk_units.proofs.numbering.Numbering.find_all.Given as goal

abbrev pub invariant-loop-number : goal.invariant-loop-number
invariant-loop-number g l =
    let view = g.N.FileNumber.view in
    record {
      known : (len : ℕ) → Below l.self len → All (λ n. n < len) l.places.items;
      found : AreFound (entry l.self) l.places.items (map view.value l.rest) (map view.value l.numbers);
    }

abbrev pub decreases-loop-number : goal.decreases-loop-number
decreases-loop-number g l = length l.rest
