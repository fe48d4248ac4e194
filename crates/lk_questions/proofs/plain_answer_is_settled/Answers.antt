use Rattle.lk_questions.proofs.Settled.{ans_settled}
use Rattle.lk_questions.proofs.plain_answer_is_settled.Goals as goal

pub returns : goal.returns
returns c = λ table w q. ans_settled table w q
