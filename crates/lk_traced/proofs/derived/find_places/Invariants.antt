use Rattle.std.proofs.Common.{length, map}
use Rattle.lk_units.specs.Numbering.{entry}
use Rattle.lk_units.proofs.Several.{AreFound}
use Rattle.lk_traced.proofs.derived.find_places.Given as goal

abbrev pub invariant-loop-number : goal.invariant-loop-number
invariant-loop-number g l =
    let view = g.N.FileNumber.view in
    AreFound (entry l.places) l.found.items (map view.value l.rest) (map view.value l.numbers)

abbrev pub decreases-loop-number : goal.decreases-loop-number
decreases-loop-number g l = length l.rest
