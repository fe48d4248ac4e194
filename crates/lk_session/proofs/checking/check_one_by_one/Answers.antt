use Rattle.std.proofs.Common.{◌∙◌, length-set}
use Rattle.lk_env.specs.Units.{library_of}
use Rattle.lk_session.proofs.Verdicts.{put_from}
use Rattle.lk_session.proofs.checking.check_one_by_one.Goals as goal

pub loop-k-preserved : goal.loop-k-preserved
loop-k-preserved g c = (
  length-set c.loop-k.verdicts.items c.loop-k.k c.check_unit.result ∙ c.loop-k.invariant.0,
  put_from (library_of c.args.library.now) (g.C.Checks.budget_of c.args.checks.now) c.args.first c.loop-k.verdicts.items c.loop-k.k c.check_unit.result c.check_unit.ensures c.loop-k.invariant.1,
)
