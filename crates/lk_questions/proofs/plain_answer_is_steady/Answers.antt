use Rattle.lk_questions.proofs.Budgets.{ans_steady}
use Rattle.lk_questions.proofs.plain_answer_is_steady.Goals as goal

pub returns : goal.returns
returns c = λ table w q b. ans_steady table w q b
