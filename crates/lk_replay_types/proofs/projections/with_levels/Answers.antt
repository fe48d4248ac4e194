use Rattle.lk_replay_types.proofs.projections.with_levels.Goals as goal

pub returns-in-Some : goal.returns-in-Some
returns-in-Some g c =
    let h = c.in-Some.ensures.given in
    rw h.means (c.with_entry.ensures h.entry h.is)
