use Rattle.lk_env.proofs.Members.{constructors_more}
use Rattle.lk_env.proofs.index.push_constructors_of_all.Goals as goal

pub loop-t-preserved : goal.loop-t-preserved
loop-t-preserved c =
    constructors_more c.args.names.now.items c.loop-t.names.items c.push_constructors.new.names.items c.args.types.now c.loop-t.t-index c.t-item.result
    c.loop-t-test.true c.t-item.is c.loop-t.invariant (rw c.deref.ensures.value at c.in_ok-push_constructors.ensures)
