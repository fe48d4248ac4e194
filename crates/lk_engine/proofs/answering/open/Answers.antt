use Rattle.std.proofs.lemmas.Result.{err_from_is_err_and}
use Rattle.lk_engine.proofs.Lookouts.{repeat_opens, repeat_stops}
use Rattle.lk_engine.proofs.answering.open.Goals as goal

pub returns-in_err-repeat-in-Some-clause-opens : goal.returns-in_err-repeat-in-Some-clause-opens
returns-in_err-repeat-in-Some-clause-opens g c =
    let p = err_from_is_err_and c.from_residual.result c.from_residual.ensures.1 in
    rw (p.1, p.2) (repeat_stops c.in_err-repeat-in-Some.ensures
    (rw c.in-Some.is at c.known.ensures.kept))

pub returns-in_err-repeat-in-Some-clause-entries : goal.returns-in_err-repeat-in-Some-clause-entries
returns-in_err-repeat-in-Some-clause-entries g c =
    rw c.repeat.ensures.stays.terms c.known.ensures.entries

pub returns-in_ok-repeat-in-Some-clause-opens : goal.returns-in_ok-repeat-in-Some-clause-opens
returns-in_ok-repeat-in-Some-clause-opens g c = repeat_opens c.in_ok-repeat-in-Some.ensures
    (rw c.in-Some.is at c.known.ensures.kept)

pub returns-in_ok-repeat-in-Some-clause-entries : goal.returns-in_ok-repeat-in-Some-clause-entries
returns-in_ok-repeat-in-Some-clause-entries g c =
    rw c.repeat.ensures.stays.terms c.known.ensures.entries
