use Rattle.std.proofs.Common.{List, ◌∙◌, ap, arith, length-set}
use Rattle.lk_desk.specs.declared.entry.Entry.{Entry}
use Rattle.lk_memo.specs.declared.key.Key.{Key}
use Rattle.lk_desk.proofs.InMemory.{entries_get, entries_else}
use Rattle.std.proofs.lemmas.List.Elements.{All-set}
use Rattle.lk_desk.specs.declared.shard.Shard.{Shard}
use Rattle.lk_desk.specs.Job.{job_of}
use Rattle.lk_desk.specs.Truth.{AreTrue, entries_of}
use Rattle.lk_desk.proofs.Truths.{none_false}
use Rattle.lk_desk.proofs.mem_shelf.MemShelfShelf.take.Goals as goal

pub returns-clause-told : goal.returns-clause-told
returns-clause-told c = rw (← c.self.view_is) (λ t.
    let xs = c.self.inside.shards.items in
    let n = c.self.invariant.0 in
    let small = c.requires.shard in
    let inside : Shard → List (Key × Entry) = λ x. entries_of x in (
      ap inside c.replace-taken.ensures.value ∙ (ap inside c.index_mut.ensures.value ∙ entries_get xs c.args.shard _ (omega arith)),
      λ j lt ne. entries_else xs c.args.shard j c.replace-taken.new.dest ne,
    ))

pub invariant_of-self : goal.invariant_of-self
invariant_of-self c =
    let n = c.self.invariant.0 in
    (length-set c.self.inside.shards.items c.args.shard c.replace-taken.new.dest ∙ n, All-set (λ (x : Shard). AreTrue (job_of c.self.inside.library.now) (entries_of x)) c.self.inside.shards.items c.args.shard c.replace-taken.new.dest (none_false (job_of c.self.inside.library.now) (entries_of c.replace-taken.new.dest) (ap entries_of c.replace-taken.ensures.after ∙ c.new-empty.ensures)) c.self.invariant.1)
