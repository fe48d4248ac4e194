use Rattle.std.proofs.Common.{◌≡◌, map, take}
use Rattle.lk_callers.specs.Told.{told_of_mark}
use Rattle.lk_callers.proofs.telling.submissions_of.Given as goal

abbrev pub invariant-loop-mark : goal.invariant-loop-mark
invariant-loop-mark l = l.submissions.items ≡ map told_of_mark (take l.mark-index l.marks)
