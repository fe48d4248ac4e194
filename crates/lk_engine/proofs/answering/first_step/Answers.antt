use Rattle.std.proofs.lemmas.Result.{err_from_is_err_and}
use Rattle.lk_engine.proofs.Lookouts.{first_opens, not_paid}
use Rattle.lk_engine.proofs.answering.first_step.Goals as goal

pub returns-in_err-pay-clause-opens : goal.returns-in_err-pay-clause-opens
returns-in_err-pay-clause-opens g c =
    let p = err_from_is_err_and c.from_residual.result c.from_residual.ensures.1 in
    rw (p.1, p.2) (not_paid c.in_err-pay.ensures)

pub returns-clause-opens : goal.returns-clause-opens
returns-clause-opens g c = first_opens c.in_ok-pay.ensures c.in_ok-start.ensures
