use Rattle.std.proofs.Common.{rules}
use Rattle.lk_callers.proofs.Filled.{put_one}
use Rattle.lk_callers.proofs.verdicts.fill.Goals as goal

pub loop-k-preserved : goal.loop-k-preserved
loop-k-preserved c = record {
  count = search rules;
  each = λ stated budget list i all. put_one stated budget list c.args.reply.now c.loop-k.verdicts.items c.loop-k.k c.index.result.now i (search rules) (search rules) (c.loop-k.invariant.each stated budget list i all);
}
