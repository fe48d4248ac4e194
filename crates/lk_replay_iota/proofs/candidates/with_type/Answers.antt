use Rattle.std.proofs.Common.{rules}
use Rattle.lk_replay_iota.proofs.candidates.with_type.Goals as goal

pub returns-in-Some : goal.returns-in-Some
returns-in-Some g c = rw (rw c.in-Some.is at c.levels_of_type.ensures.is) c.is_candidate.ensures

pub returns-in-None : goal.returns-in-None
returns-in-None g c =
    rw (rw c.in-None.is at c.levels_of_type.ensures.is)
    (record { keeps = search rules; stays = search rules; ok = search rules })
