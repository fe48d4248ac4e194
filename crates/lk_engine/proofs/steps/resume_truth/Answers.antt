use Rattle.lk_ask.proofs.Steps.{wrapped}
use Rattle.lk_engine.proofs.steps.resume_truth.Goals as goal

pub returns-in_ok-resume_truth-in-Iota : goal.returns-in_ok-resume_truth-in-Iota
returns-in_ok-resume_truth-in-Iota g c = rw c.in-Iota.is
    (wrapped c.of_iota.ensures c.in_ok-resume_truth-in-Iota.ensures)

pub returns-in_ok-resume_truth-in-Type : goal.returns-in_ok-resume_truth-in-Type
returns-in_ok-resume_truth-in-Type g c = rw c.in-Type.is
    (wrapped c.of_type.ensures c.in_ok-resume_truth-in-Type.ensures)

pub returns-in_ok-resume_truth-in-Same : goal.returns-in_ok-resume_truth-in-Same
returns-in_ok-resume_truth-in-Same g c = rw c.in-Same.is
    (wrapped c.of_same.ensures c.in_ok-resume_truth-in-Same.ensures)
