use Rattle.std.proofs.Common.{refl}
use Rattle.lk_traced.proofs.sections.BegunSection.ended.Goals as goal

pub returns-clause-holds : goal.returns-clause-holds
returns-clause-holds c = λ k p h. rw (h.unit, h.lines) refl

pub returns-clause-known : goal.returns-clause-known
returns-clause-known c = λ k h. record { section_in = h.lines_in; numbered = h.numbered }
