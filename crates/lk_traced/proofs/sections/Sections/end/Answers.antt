use Rattle.lk_units.proofs.Lines.{fails_then}
use Rattle.lk_traced.proofs.sections.Sections.end.Goals as goal

pub returns-in-Ok-clause-follows : goal.returns-in-Ok-clause-follows
returns-in-Ok-clause-follows c = λ k b h. rw (c.in-Ok.ensures k b h) (c.end_with.ensures.follows k b h)

pub returns-in-Err-clause-follows : goal.returns-in-Err-clause-follows
returns-in-Err-clause-follows c = λ k b h. fails_then c.in-Err.error _ _ (c.in-Err.ensures k b h)
