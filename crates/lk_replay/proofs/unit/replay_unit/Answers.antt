use Rattle.lk_replay.proofs.Good.{derived_if}
use Rattle.lk_replay.proofs.unit.replay_unit.Goals as goal

pub returns-clause-derived : goal.returns-clause-derived
returns-clause-derived c = derived_if c.args.traced.now c.args.number c.replay_at.result c.replay_at.ensures
