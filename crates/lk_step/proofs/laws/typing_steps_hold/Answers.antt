use Rattle.lk_step.proofs.TypingSteps.{typing_steps}
use Rattle.lk_step.proofs.laws.typing_steps_hold.Goals as goal

pub returns : goal.returns
returns c = λ w. typing_steps w
