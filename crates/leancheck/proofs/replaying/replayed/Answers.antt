use Rattle.leancheck.proofs.Sections.{replay_made}
use Rattle.leancheck.proofs.replaying.replayed.Goals as goal

pub returns-clause-gives : goal.returns-clause-gives
returns-clause-gives g c = λ bytes reads.
    replay_made bytes c.args.traced.now c.in_ok-outcomes.outcomes.items c.deref.result.now c.deref-2.result.now c.in_ok-text.text.items c.replay_status-status.result reads
    c.in_ok-outcomes.ensures c.deref.ensures.value c.in_ok-text.ensures c.deref-2.ensures.value c.replay_status-status.ensures.is
