use Rattle.lk_questions.proofs.Agreement.{ans_keeps}
use Rattle.lk_questions.proofs.plain_answers_agree.Goals as goal

pub returns : goal.returns
returns c = λ table n w other q b k. ans_keeps table n w other k q b
