use Rattle.std.proofs.Common.{◌≡◌, ◌++◌, take}
use Rattle.std.specs.List.{flat_map}
use Rattle.lk_needs.specs.Things.{constructor_things}
use Rattle.lk_needs.proofs.listing.push_constructors.Given as goal

abbrev pub invariant-loop-k : goal.invariant-loop-k
invariant-loop-k l = l.things.items ≡ l.initial.things.items ++ flat_map constructor_things (take l.k-index l.constructors)
