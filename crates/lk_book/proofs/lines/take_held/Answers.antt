use Rattle.std.proofs.Common.{◌∙◌}
use Rattle.std.proofs.lemmas.Result.{err_from_is_err_and}
use Rattle.lk_book.proofs.Leading.{held_passes, held_stops, passes_then, stops_then, passes_left}
use Rattle.lk_book.proofs.lines.take_held.Goals as goal

pub returns-in_err-take-clause-stops : goal.returns-in_err-take-clause-stops
returns-in_err-take-clause-stops g c = λ d h.
    let p = err_from_is_err_and c.from_residual-in_err-take.result c.from_residual-in_err-take.ensures.1 in
    rw (p.1, p.2)
    (held_stops g.R.LineReader.step (g.R.LineReader.stands c.args.reader.now (g.T.Terms.contents c.args.store.now)) d c.args.held.now.items c.args.line.now c.deref.result.now c.args.more.now _ (c.deref.ensures.value ∙ c.in_ok-hold.ensures.ok) c.requires.held c.requires.line h (c.in_err-take.ensures.step d h))

pub returns-in_err-rest-clause-stops : goal.returns-in_err-rest-clause-stops
returns-in_err-rest-clause-stops g c = λ d h.
    let p = err_from_is_err_and c.from_residual-in_err-rest.result c.from_residual-in_err-rest.ensures.1 in
    let q = held_passes g.R.LineReader.step (g.R.LineReader.stands c.args.reader.now (g.T.Terms.contents c.args.store.now)) _ d c.args.held.now.items c.args.line.now c.deref.result.now c.args.more.now (c.deref.ensures.value ∙ c.in_ok-hold.ensures.ok) c.requires.held c.requires.line h (c.in_ok-take.ensures.step d h) in
    rw (p.1, p.2) (stops_then g.R.LineReader.step _ d _ _ _ q (c.in_err-rest.ensures.stops q.course q.stands))

pub returns-clause-passes : goal.returns-clause-passes
returns-clause-passes g c = λ d h.
    let q = held_passes g.R.LineReader.step (g.R.LineReader.stands c.args.reader.now (g.T.Terms.contents c.args.store.now)) _ d c.args.held.now.items c.args.line.now c.deref.result.now c.args.more.now (c.deref.ensures.value ∙ c.in_ok-hold.ensures.ok) c.requires.held c.requires.line h (c.in_ok-take.ensures.step d h) in
    let r = passes_then g.R.LineReader.step _ _ d _ _ _ q (c.in_ok-rest.ensures.passes q.course q.stands) in
    passes_left g.R.LineReader.step _ d _ c.in_ok-rest.rest.now c.clear.new.self.items c.hold-2.new.held.items c.clear.ensures.items c.in_ok-hold-2.ensures.ok r
