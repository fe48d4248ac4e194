use Rattle.leancheck.proofs.Working.{goes_on}
use Rattle.leancheck.proofs.worker.draw.Goals as goal

pub loop-preserved : goal.loop-preserved
loop-preserved c =
    goes_on c.args.desk.now _ _ _ _ _ _ _ _ _ c.loop.invariant c.draw_one-next-in-loop.ensures
