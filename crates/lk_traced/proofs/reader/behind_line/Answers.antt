use Rattle.std.proofs.Common.{◌∙◌}
use Rattle.lk_lines.specs.FileNumbers.{wide}
use Rattle.lk_traced.specs.Course.{taken_behind}
use Rattle.lk_traced.proofs.Followed.{read_fails, read_on, behind_goes, behind_stops}
use Rattle.lk_traced.proofs.reader.behind_line.Goals as goal

pub returns-in-Err-clause-step : goal.returns-in-Err-clause-step
returns-in-Err-clause-step g c = λ d b h hs e.
    read_fails wide d.number c.args.number _ (taken_behind d b) c.in-Err.error (c.requires.number ∙ h.number) c.in-Err.ensures.tells

pub returns-in-Ok-take_behind-clause-step : goal.returns-in-Ok-take_behind-clause-step
returns-in-Ok-take_behind-clause-step g c = λ d b h hs e.
    rw (read_on wide d.number c.args.number _ (taken_behind d b) _ c.in-Ok.ensures.tells.1)
    (behind_goes c.args.reader.now c.take_behind.new.assembler c.take_behind.new.sections (g.T.Terms.contents c.args.store.now) (g.T.Terms.contents c.take_behind.new.store) d b _ h e
    (rw (c.requires.number ∙ h.number) at c.in-Ok-take_behind.ensures.follows d.state b h.holds hs))

pub returns-in-Err-take_behind-clause-step : goal.returns-in-Err-take_behind-clause-step
returns-in-Err-take_behind-clause-step g c = λ d b h hs e.
    rw (read_on wide d.number c.args.number _ (taken_behind d b) _ c.in-Ok.ensures.tells.1, c.at_line.ensures)
    (behind_stops d b _ c.args.number c.in-Err-take_behind.error (c.requires.number ∙ h.number) (rw (c.requires.number ∙ h.number) at c.in-Err-take_behind.ensures.follows d.state b h.holds hs))
