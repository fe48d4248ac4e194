use Rattle.lk_desk.proofs.InMemory.{entries_empty}
use Rattle.lk_desk.proofs.mem_shelf.MemShelf.new.Goals as goal

pub returns-clause-empty : goal.returns-clause-empty
returns-clause-empty c = λ k lt. entries_empty c.in_ok-shards.shards.items c.in_ok-shards.ensures.empty k
