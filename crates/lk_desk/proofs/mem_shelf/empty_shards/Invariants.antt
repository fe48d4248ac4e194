use Rattle.std.proofs.Common.{◌≡◌, [], All, length}
use Rattle.lk_desk.specs.Truth.{entries_of}
use Rattle.lk_desk.proofs.mem_shelf.empty_shards.Given as goal

abbrev pub invariant-loop : goal.invariant-loop
invariant-loop l = (length l.shards.items ≡ l.counter) × All (λ x. (entries_of x) ≡ []) l.shards.items
