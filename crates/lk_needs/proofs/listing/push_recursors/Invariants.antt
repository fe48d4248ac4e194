use Rattle.std.proofs.Common.{◌≡◌, ◌++◌, take}
use Rattle.std.specs.List.{flat_map}
use Rattle.lk_needs.specs.Things.{recursor_things}
use Rattle.lk_needs.proofs.listing.push_recursors.Given as goal

abbrev pub invariant-loop-r : goal.invariant-loop-r
invariant-loop-r l = l.things.items ≡ l.initial.things.items ++ flat_map recursor_things (take l.r-index l.recursors)
