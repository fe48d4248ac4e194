use Rattle.std.proofs.Common.{◌≡◌, ◌||◌}
use Rattle.lk_callers.proofs.Gathered.{or_true, or_false, gathered_more}
use Rattle.lk_callers.proofs.gathering.take_in.Goals as goal
use Rattle.lk_callers.proofs.gathering.take_in.Goals.{then-all, else-all}

pub returns : goal.returns
returns g c = λ texts t budget low high a b.
    let full : c.if-all.all ≡ (c.args.all.now.full || c.args.one.full) = elim c.if-all.branch [
      | then-all w ↦ or_true c.args.all.now.full c.args.one.full c.if-all.all w.if-all.true w.all-is
      | else-all w ↦ or_false c.args.all.now.full c.args.one.full c.if-all.all w.if-all.false w.all-is
    ] in
    gathered_more g.T.Reads.stated texts t budget low high c.args.all.now c.args.one _ a b c.join.ensures.order.0 c.join.ensures.order.1 c.join.ensures.both c.in_ok-append.ensures.items full
