use Rattle.leancheck.proofs.Files.{of_bytes}
use Rattle.leancheck.specs.Ends.{Reports, WritesPrefix}
use Rattle.leancheck.proofs.run.check.Goals as goal

pub returns-in-Ok-clause-verdicts : goal.returns-in-Ok-clause-verdicts
returns-in-Ok-clause-verdicts g c = λ checked.
    of_bytes (λ bytes. Reports c.args.extent c.args.options bytes c.tell_verdicts.result (g.K.Sink.written c.args.sink.now) (g.K.Sink.written c.tell_verdicts.new.sink)) (g.S.Source.left c.args.source.now)
    c.in-Ok.library c.in-Ok.ensures.reads (c.tell_verdicts.ensures.told checked).0

pub returns-in-Ok-clause-prefix : goal.returns-in-Ok-clause-prefix
returns-in-Ok-clause-prefix g c = λ failed.
    of_bytes (λ bytes. WritesPrefix c.args.extent c.args.options bytes (g.K.Sink.written c.args.sink.now) (g.K.Sink.written c.tell_verdicts.new.sink)) (g.S.Source.left c.args.source.now)
    c.in-Ok.library c.in-Ok.ensures.reads (c.tell_verdicts.ensures.failed failed).0
