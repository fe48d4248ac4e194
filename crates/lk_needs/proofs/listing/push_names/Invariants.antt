use Rattle.std.proofs.Common.{◌≡◌, ◌++◌, map, take}
use Rattle.lk_needs.specs.declared.thing.Thing.TheVariants as thing
use Rattle.lk_needs.proofs.listing.push_names.Given as goal

abbrev pub invariant-loop-name : goal.invariant-loop-name
invariant-loop-name l = l.things.items ≡ l.initial.things.items ++ map thing.Name (take l.name-index l.names)
