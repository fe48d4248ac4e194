use Rattle.lk_step.proofs.Runs.{answered_so, opened_so, one_answer}
use Rattle.lk_step.proofs.answers.answers_come_of_rows.Goals as goal

pub returns : goal.returns
returns c = record { answered = λ w q b v c t h. answered_so w q b v c t h; opened = λ w q v c h. opened_so w q v c h; one = λ w q v u c d h k. one_answer w q v u c d h k }
