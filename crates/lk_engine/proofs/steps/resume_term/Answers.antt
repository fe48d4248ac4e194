use Rattle.lk_ask.proofs.Steps.{wrapped}
use Rattle.lk_engine.proofs.steps.resume_term.Goals as goal

pub returns-in_ok-resume-in-Core : goal.returns-in_ok-resume-in-Core
returns-in_ok-resume-in-Core g c = rw c.in-Core.is
    (wrapped c.of_core.ensures c.in_ok-resume-in-Core.ensures)

pub returns-in_ok-resume_term-in-Iota : goal.returns-in_ok-resume_term-in-Iota
returns-in_ok-resume_term-in-Iota g c = rw c.in-Iota.is
    (wrapped c.of_iota.ensures c.in_ok-resume_term-in-Iota.ensures)

pub returns-in_ok-resume_term-in-Quotient : goal.returns-in_ok-resume_term-in-Quotient
returns-in_ok-resume_term-in-Quotient g c = rw c.in-Quotient.is
    (wrapped c.of_quotient.ensures c.in_ok-resume_term-in-Quotient.ensures)

pub returns-in_ok-resume_term-in-Reduced : goal.returns-in_ok-resume_term-in-Reduced
returns-in_ok-resume_term-in-Reduced g c = rw c.in-Reduced.is
    (wrapped c.of_reduced.ensures c.in_ok-resume_term-in-Reduced.ensures)

pub returns-in_ok-resume_term-in-Type : goal.returns-in_ok-resume_term-in-Type
returns-in_ok-resume_term-in-Type g c = rw c.in-Type.is
    (wrapped c.of_type.ensures c.in_ok-resume_term-in-Type.ensures)

pub returns-in_ok-resume_term-in-Projected : goal.returns-in_ok-resume_term-in-Projected
returns-in_ok-resume_term-in-Projected g c = rw c.in-Projected.is
    (wrapped c.of_projected.ensures c.in_ok-resume_term-in-Projected.ensures)

pub returns-in_ok-resume_term-in-Same : goal.returns-in_ok-resume_term-in-Same
returns-in_ok-resume_term-in-Same g c = rw c.in-Same.is
    (wrapped c.of_same.ensures c.in_ok-resume_term-in-Same.ensures)
