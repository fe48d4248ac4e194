use Rattle.lk_store.specs.Store.{contents_of}
use Rattle.lk_env.proofs.Trees.{next_flaw}
use Rattle.lk_env.proofs.scan.flaws_of.Goals as goal

pub loop-unit-preserved : goal.loop-unit-preserved
loop-unit-preserved c =
    rw c.in_ok-push.ensures.items
    (next_flaw (contents_of c.args.base.now) c.args.units.now c.loop-unit.unit-index c.unit-item.result c.loop-unit.flaws.items c.flaw_of.result
    c.loop-unit-test.true c.unit-item.is c.loop-unit.invariant c.flaw_of.ensures)
