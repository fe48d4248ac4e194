use Rattle.leancheck.proofs.Tracings.{tracing_made}
use Rattle.leancheck.proofs.tracing.traced.Goals as goal

pub returns-clause-gives : goal.returns-clause-gives
returns-clause-gives g c = λ bytes reads.
    tracing_made bytes c.args.library.now c.args.steps c.trace_by_engines.new.trace c.text_of_trace.result.items c.in_ok-status.status reads
    c.in_ok-status.ensures.traced c.text_of_trace.ensures c.in_ok-status.ensures.status
