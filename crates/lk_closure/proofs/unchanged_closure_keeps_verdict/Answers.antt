use Rattle.lk_closure.proofs.Least.{unchanged}
use Rattle.lk_closure.proofs.unchanged_closure_keeps_verdict.Goals as goal

pub returns : goal.returns
returns c = unchanged
