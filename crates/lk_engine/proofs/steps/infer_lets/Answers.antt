use Rattle.lk_engine.proofs.Chains.{replaced_starts}
use Rattle.lk_engine.proofs.steps.infer_lets.Goals as goal

pub returns : goal.returns
returns g c =
    replaced_starts c.in_ok-pushed.pushed c.infer.result c.pushed_lets.ensures.keeps c.pushed_lets.ensures.stays c.in_ok-pushed.ensures.alike c.infer.ensures
