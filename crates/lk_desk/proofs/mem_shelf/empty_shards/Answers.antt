use Rattle.std.proofs.Common.{◌≡◌, [], arith}
use Rattle.std.proofs.lemmas.List.{length-append}
use Rattle.std.proofs.lemmas.List.Elements.{All-push}
use Rattle.lk_desk.specs.declared.shard.Shard.{Shard}
use Rattle.lk_desk.specs.Job.{job_of}
use Rattle.lk_desk.specs.Truth.{entries_of}
use Rattle.lk_desk.proofs.InMemory.{true_of_empty}
use Rattle.lk_desk.proofs.mem_shelf.empty_shards.Goals as goal

pub loop-preserved : goal.loop-preserved
loop-preserved c =
    let Empty : Shard → Type 0 = λ x. (entries_of x) ≡ [] in
    (rw (c.in_ok-push.ensures.items, length-append) (omega arith), rw c.in_ok-push.ensures.items (All-push Empty c.loop.shards.items _ c.loop.invariant.1 c.new.ensures))

pub returns-clause-all_true : goal.returns-clause-all_true
returns-clause-all_true c = true_of_empty (job_of c.args.library.now) c.loop.shards.items c.loop.invariant.1
