use Rattle.lk_questions.proofs.Budgets.{ans_suc, ans_zero}
use Rattle.lk_questions.proofs.plain_answer_opens.Goals as goal

pub returns : goal.returns
returns c = record { nothing_left = λ table w q. ans_zero table w q; opens = λ table w q b. ans_suc table w q b }
