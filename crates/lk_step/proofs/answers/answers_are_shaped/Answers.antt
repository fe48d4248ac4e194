use Rattle.lk_step.proofs.Shapes.{shaped_answer}
use Rattle.lk_step.proofs.answers.answers_are_shaped.Goals as goal

pub returns : goal.returns
returns c = λ w ok q v n f h. shaped_answer w ok q v n f h
