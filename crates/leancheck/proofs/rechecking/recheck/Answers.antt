use Rattle.leancheck.proofs.Files.{of_rounds}
use Rattle.leancheck.specs.Ends.{Rechecks, RechecksPrefix}
use Rattle.leancheck.proofs.rechecking.recheck.Goals as goal

pub returns-in-Ok-clause-rechecks : goal.returns-in-Ok-clause-rechecks
returns-in-Ok-clause-rechecks g c = λ checked.
    of_rounds (λ bytes. Rechecks c.args.steps bytes c.tell_rounds.result (g.K.Sink.written c.args.sink.now) (g.K.Sink.written c.tell_rounds.new.sink)) (g.S.Source.left c.args.source.now)
    c.in-Ok.rounds c.in-Ok.ensures.reads (c.tell_rounds.ensures.told checked).0

pub returns-in-Ok-clause-prefix : goal.returns-in-Ok-clause-prefix
returns-in-Ok-clause-prefix g c = λ failed.
    of_rounds (λ bytes. RechecksPrefix c.args.steps bytes (g.K.Sink.written c.args.sink.now) (g.K.Sink.written c.tell_rounds.new.sink)) (g.S.Source.left c.args.source.now)
    c.in-Ok.rounds c.in-Ok.ensures.reads (c.tell_rounds.ensures.failed failed).0
