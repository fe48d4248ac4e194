use Rattle.lk_enlarge.specs.Drafts.{outline_at}
use Rattle.lk_enlarge.proofs.Outlines.{from_past, from_within}
use Rattle.lk_enlarge.proofs.draft.find_outline.Goals as goal

pub returns-in-None-clause-value : goal.returns-in-None-clause-value
returns-in-None-clause-value c = λ d. from_past d c.args.auxs.now c.args.number c.in-None.ensures.lookup.3

pub returns-in_ok-outline-in-Some-clause-value : goal.returns-in_ok-outline-in-Some-clause-value
returns-in_ok-outline-in-Some-clause-value c = λ d.
    from_within d c.args.auxs.now c.args.number c.in-Some.aux.now c.in-Some.ensures.lookup.3.0 c.in-Some.ensures.lookup.1 (outline_at d c.in_ok-outline-in-Some.outline) (c.in_ok-outline-in-Some.ensures.value d)
