use Rattle.std.proofs.lemmas.Result.{on_ok_weaker}
use Rattle.leancheck.proofs.tracing.trace_by.Goals as goal

pub returns-clause-traced : goal.returns-clause-traced
returns-clause-traced g c = on_ok_weaker c.trace_units-status.result
    (λ t. record { contents = g.D.Terms.contents c.trace_units-status.new.deriver.derives; traced = t })
    c.trace_units-status.ensures.traced
