use Rattle.std.proofs.Common.{◌∙◌}
use Rattle.lk_lines.specs.FileNumbers.{narrow}
use Rattle.lk_traced.specs.Course.{taken_before}
use Rattle.lk_traced.proofs.Followed.{read_fails, read_on}
use Rattle.lk_traced.proofs.before.before_line.Goals as goal

pub returns-in-Ok-clause-step : goal.returns-in-Ok-clause-step
returns-in-Ok-clause-step g c = λ d h.
    rw (read_on narrow d.number c.args.number _ (taken_before d) _ (rw h.first at c.in-Ok.ensures.tells.1)) (c.take_before.ensures.follows d h)

pub returns-in-Err-clause-step : goal.returns-in-Err-clause-step
returns-in-Err-clause-step g c = λ d h.
    read_fails narrow d.number c.args.number _ (taken_before d) c.in-Err.error (c.requires.number ∙ h.number) (rw h.first at c.in-Err.ensures.tells)
