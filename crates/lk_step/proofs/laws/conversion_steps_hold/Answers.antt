use Rattle.lk_step.proofs.EqualitySteps.{equality_steps}
use Rattle.lk_step.proofs.laws.conversion_steps_hold.Goals as goal

pub returns : goal.returns
returns c = λ w. equality_steps w
