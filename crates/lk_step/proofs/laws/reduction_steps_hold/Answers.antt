use Rattle.lk_step.proofs.ReductionSteps.{reduction_steps}
use Rattle.lk_step.proofs.laws.reduction_steps_hold.Goals as goal

pub returns : goal.returns
returns c = λ w. reduction_steps w
