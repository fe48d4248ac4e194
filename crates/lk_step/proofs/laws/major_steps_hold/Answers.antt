use Rattle.lk_step.proofs.MajorSteps.{major_steps}
use Rattle.lk_step.proofs.laws.major_steps_hold.Goals as goal

pub returns : goal.returns
returns c = λ w. major_steps w
