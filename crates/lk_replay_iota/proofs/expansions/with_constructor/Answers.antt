use Rattle.lk_replay_iota.proofs.expansions.with_constructor.Goals as goal

pub returns-in-Some : goal.returns-in-Some
returns-in-Some g c k h = rw (c.in-Some.ensures.read, c.reduced-form.ensures.read) (c.with_type.ensures k h)
