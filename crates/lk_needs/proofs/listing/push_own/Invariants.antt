use Rattle.std.proofs.Common.{◌≡◌, ◌++◌, take}
use Rattle.std.specs.List.{flat_map}
use Rattle.lk_needs.specs.Things.{own_things}
use Rattle.lk_needs.proofs.listing.push_own.Given as goal

abbrev pub invariant-loop-t : goal.invariant-loop-t
invariant-loop-t l = l.things.items ≡ l.initial.things.items ++ flat_map (own_things l.plain) (take l.t-index l.types)
