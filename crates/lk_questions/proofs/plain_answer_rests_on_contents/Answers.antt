use Rattle.lk_questions.proofs.Renamed.{ans_same}
use Rattle.lk_questions.proofs.plain_answer_rests_on_contents.Goals as goal

pub returns : goal.returns
returns c = λ table w other q b h. ans_same table w other q b h
