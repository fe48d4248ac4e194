use Rattle.lk_declaration.proofs.Stepwise as steps
use Rattle.lk_declaration.proofs.laws.courses_are_steps.Goals as goal

pub returns : goal.returns
returns c = steps.courses_are_steps
