use Rattle.leancheck.proofs.Files.{of_bytes}
use Rattle.leancheck.specs.Ends.{Trims, TrimsPrefix}
use Rattle.leancheck.proofs.trimming.trim.Goals as goal

pub returns-in-Ok-clause-trims : goal.returns-in-Ok-clause-trims
returns-in-Ok-clause-trims g c = λ checked.
    of_bytes (λ bytes. Trims c.args.name.now bytes c.tell_trimmed.result (g.K.Sink.written c.args.sink.now) (g.K.Sink.written c.tell_trimmed.new.sink)) (g.S.Source.left c.args.source.now)
    c.in-Ok.library c.in-Ok.ensures.reads (c.tell_trimmed.ensures.told checked).0

pub returns-in-Ok-clause-prefix : goal.returns-in-Ok-clause-prefix
returns-in-Ok-clause-prefix g c = λ failed.
    of_bytes (λ bytes. TrimsPrefix c.args.name.now bytes (g.K.Sink.written c.args.sink.now) (g.K.Sink.written c.tell_trimmed.new.sink)) (g.S.Source.left c.args.source.now)
    c.in-Ok.library c.in-Ok.ensures.reads (c.tell_trimmed.ensures.failed failed).0
