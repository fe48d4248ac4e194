use Rattle.lk_rows.specs.Slots.{AreTaken}
use Rattle.lk_rows.proofs.slots.free_between.Given as goal

abbrev pub invariant-loop-s : goal.invariant-loop-s
invariant-loop-s l = AreTaken l.tags l.from l.s
