use Rattle.std.proofs.Common.{◌≡◌, All, length}
use Rattle.lk_desk.specs.Rule.{IsEmptyShard}
use Rattle.lk_desk.proofs.seats.empty_shards.Given as goal

abbrev pub invariant-loop : goal.invariant-loop
invariant-loop l = (length l.slots.items ≡ l.counter) × All IsEmptyShard l.slots.items
