use Rattle.lk_ask.proofs.Steps.{wrapped}
use Rattle.lk_engine.proofs.steps.core.Goals as goal

pub returns-in-Goes : goal.returns-in-Goes
returns-in-Goes g c =
    wrapped c.of_core.ensures (rw c.in-Goes.is at c.in_ok-next.ensures)

pub returns-in-Projection : goal.returns-in-Projection
returns-in-Projection g c =
    let found = rw c.in-Projection.is at c.in_ok-next.ensures in
    rw found.0 (wrapped c.of_reduced.ensures
    ((rw found.0 at c.begin-in-Projection.ensures) found.1.structure found.1.field found.1.is))
