use Rattle.leancheck.proofs.Files.{of_trace}
use Rattle.leancheck.specs.Ends.{Replays, ReplaysPrefix}
use Rattle.leancheck.proofs.replaying.replay.Goals as goal

pub returns-in-Ok-clause-replays : goal.returns-in-Ok-clause-replays
returns-in-Ok-clause-replays g c = λ checked.
    of_trace (λ bytes. Replays bytes c.tell_replayed.result (g.K.Sink.written c.args.sink.now) (g.K.Sink.written c.tell_replayed.new.sink)) (g.S.Source.left c.args.source.now)
    c.in-Ok.traced c.in-Ok.ensures.reads (c.tell_replayed.ensures.told checked).0

pub returns-in-Ok-clause-prefix : goal.returns-in-Ok-clause-prefix
returns-in-Ok-clause-prefix g c = λ failed.
    of_trace (λ bytes. ReplaysPrefix bytes (g.K.Sink.written c.args.sink.now) (g.K.Sink.written c.tell_replayed.new.sink)) (g.S.Source.left c.args.source.now)
    c.in-Ok.traced c.in-Ok.ensures.reads (c.tell_replayed.ensures.failed failed).0
