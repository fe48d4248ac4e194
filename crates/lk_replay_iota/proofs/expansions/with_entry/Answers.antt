use Rattle.std.proofs.Common.{rules}
use Rattle.lk_replay_iota.proofs.expansions.with_entry.Goals as goal

pub returns-in-Some : goal.returns-in-Some
returns-in-Some g c e h = rw (rw c.in-Some.is at (c.only_rule.ensures.is e h)) c.with_rule.ensures

pub returns-in-None : goal.returns-in-None
returns-in-None g c e h =
    rw (rw c.in-None.is at (c.only_rule.ensures.is e h))
    (record { keeps = search rules; stays = search rules; ok = search rules })
