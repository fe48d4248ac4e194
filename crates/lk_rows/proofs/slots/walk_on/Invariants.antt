use Rattle.lk_rows.specs.Slots.{HasPassed}
use Rattle.lk_rows.proofs.slots.walk_on.Given as goal

abbrev pub invariant-loop-s : goal.invariant-loop-s
invariant-loop-s g l = HasPassed g.R.Row.key l.rows l.key l.tags l.slots l.tag l.from l.s
