use Rattle.leancheck.proofs.Files.{of_bytes}
use Rattle.leancheck.specs.Ends.{Traces, TracesPrefix}
use Rattle.leancheck.proofs.tracing.trace.Goals as goal

pub returns-in-Ok-clause-traces : goal.returns-in-Ok-clause-traces
returns-in-Ok-clause-traces g c = λ checked.
    of_bytes (λ bytes. Traces c.args.steps bytes c.tell_traced.result (g.K.Sink.written c.args.sink.now) (g.K.Sink.written c.tell_traced.new.sink)) (g.S.Source.left c.args.source.now)
    c.in-Ok.library c.in-Ok.ensures.reads (c.tell_traced.ensures.told checked).0

pub returns-in-Ok-clause-prefix : goal.returns-in-Ok-clause-prefix
returns-in-Ok-clause-prefix g c = λ failed.
    of_bytes (λ bytes. TracesPrefix c.args.steps bytes (g.K.Sink.written c.args.sink.now) (g.K.Sink.written c.tell_traced.new.sink)) (g.S.Source.left c.args.source.now)
    c.in-Ok.library c.in-Ok.ensures.reads (c.tell_traced.ensures.failed failed).0
