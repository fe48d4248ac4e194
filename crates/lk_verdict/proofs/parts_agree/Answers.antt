use Rattle.lk_verdict.proofs.Verdicts.{yes_stays}
use Rattle.lk_verdict.proofs.parts_agree.Goals as goal

pub returns : goal.returns
returns c = λ part table us n budget h e. yes_stays part table h us n budget e
