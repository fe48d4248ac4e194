use Rattle.std.proofs.Common.{arith, length-set, ◌∙◌}
use Rattle.lk_desk.proofs.InMemory.{entries_set, entries_else}
use Rattle.std.proofs.lemmas.List.Elements.{All-set}
use Rattle.lk_desk.specs.declared.shard.Shard.{Shard}
use Rattle.lk_desk.specs.Job.{job_of}
use Rattle.lk_desk.specs.Truth.{AreTrue, entries_of}
use Rattle.lk_desk.proofs.mem_shelf.MemShelfShelf.give.Goals as goal

pub returns-clause-told : goal.returns-clause-told
returns-clause-told c = rw (← c.self.view_is) (λ t.
    let xs = c.self.inside.shards.items in
    let n = c.self.invariant.0 in
    let small = c.requires.shard in
    (entries_set xs c.args.shard c.args.given (omega arith), λ j lt ne. entries_else xs c.args.shard j c.args.given ne))

pub invariant_of-self : goal.invariant_of-self
invariant_of-self c =
    let n = c.self.invariant.0 in
    (length-set c.self.inside.shards.items c.args.shard c.args.given ∙ n, All-set (λ (x : Shard). AreTrue (job_of c.self.inside.library.now) (entries_of x)) c.self.inside.shards.items c.args.shard c.args.given (rw (← c.self.view_is) at c.requires.true_entries) c.self.invariant.1)
