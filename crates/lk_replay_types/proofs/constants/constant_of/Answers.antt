use Rattle.lk_replay_types.proofs.constants.constant_of.Goals as goal

pub returns-in-Some : goal.returns-in-Some
returns-in-Some g c =
    let h = c.in-Some.ensures.given in
    rw h.means (c.is_stated.ensures h.entry h.is)
