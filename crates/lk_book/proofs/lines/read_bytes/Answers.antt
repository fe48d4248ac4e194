use Rattle.std.proofs.Common.{sym, subst}
use Rattle.std.proofs.lemmas.Result.{err_from_is_err_and}
use Rattle.lk_book.specs.Courses.{Goes}
use Rattle.lk_book.proofs.Remaining.{whole_line, whole_stops}
use Rattle.lk_book.proofs.lines.read_bytes.Goals as goal

pub returns-in_err-rest-clause-reads : goal.returns-in_err-rest-clause-reads
returns-in_err-rest-clause-reads g c = λ d h.
    let p = err_from_is_err_and c.from_residual.result c.from_residual.ensures.1 in
    rw (p.1, p.2) (whole_stops g.R.LineReader.step d c.args.bytes.now _ (c.in_err-rest.ensures.stops d h))

pub returns-clause-reads : goal.returns-clause-reads
returns-clause-reads g c = λ d h.
    let step = g.R.LineReader.step in
    let m = c.in_ok-rest.ensures.passes d h in
    let whole = whole_line step _ d c.args.bytes.now _ m c.in_ok-rest.ensures.unfinished in
    subst (λ said. Goes (g.R.LineReader.stands c.take.new.self (g.T.Terms.contents c.take.new.store)) c.take.result said) (sym whole) (c.take.ensures.step m.course m.stands)
