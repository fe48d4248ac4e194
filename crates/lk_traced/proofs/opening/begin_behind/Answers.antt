use Rattle.lk_traced.proofs.Opened.{trace_begins, trace_stops}
use Rattle.lk_traced.proofs.opening.begin_behind.Goals as goal

pub returns-in-Err-clause-follows : goal.returns-in-Err-clause-follows
returns-in-Err-clause-follows g c = λ d h.
    trace_stops c.args.reader.now (g.T.Terms.contents c.args.store.now) d h c.in-Err.error c.in-Err.ensures.fault

pub returns-clause-follows : goal.returns-clause-follows
returns-clause-follows g c = λ d h.
    let store = g.T.Terms.contents c.args.store.now in
    trace_begins c.args.reader.now store d h c.new.result c.in-Ok.kinds.items c.in-Ok.ensures.kinds (λ e i. c.new.ensures.holds store e i)

pub returns-clause-behind : goal.returns-clause-behind
returns-clause-behind g c = c.new.ensures.known (g.T.Terms.contents c.args.store.now)
