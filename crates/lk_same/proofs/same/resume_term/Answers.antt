use Rattle.lk_same.specs.Sames.{then_texts, then_unfolding}
use Rattle.lk_same.proofs.Giving.{line_then}
use Rattle.lk_same.proofs.same.resume_term.Goals as goal

pub returns-in_ok-line-in-Eta : goal.returns-in_ok-line-in-Eta
returns-in_ok-line-in-Eta g c =
    rw c.in-Eta.is (line_then then_texts c.in_ok-line-in-Eta.ensures c.of_eta.ensures)

pub returns-in_ok-line-in-Literals : goal.returns-in_ok-line-in-Literals
returns-in_ok-line-in-Literals g c =
    rw c.in-Literals.is
    (line_then then_unfolding c.in_ok-line-in-Literals.ensures c.of_literals.ensures)
