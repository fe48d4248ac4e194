use Rattle.lk_engine.proofs.Lookouts.{repeat_answers}
use Rattle.lk_engine.proofs.sharing.answer_after.Goals as goal

pub returns-in-Some-clause-answers : goal.returns-in-Some-clause-answers
returns-in-Some-clause-answers c =
    repeat_answers c.repeat.ensures (rw c.in-Some.is at c.requires.found)
    c.requires.stands.entries_true
