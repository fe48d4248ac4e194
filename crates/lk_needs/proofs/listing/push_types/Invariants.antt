use Rattle.std.proofs.Common.{◌≡◌, ◌++◌, take}
use Rattle.std.specs.List.{flat_map}
use Rattle.lk_needs.specs.Things.{type_things}
use Rattle.lk_needs.proofs.listing.push_types.Given as goal

abbrev pub invariant-loop-t : goal.invariant-loop-t
invariant-loop-t l = l.things.items ≡ l.initial.things.items ++ flat_map type_things (take l.t-index l.types)
