use Rattle.std.proofs.Common.{◌≡◌, ◌++◌, ◌-◌}
use Rattle.lk_level_order.specs.Values.{digits}
use Rattle.lk_level_order.proofs.cases.set_case.Given as goal

abbrev pub invariant-loop-at : goal.invariant-loop-at
invariant-loop-at l = l.assignment.items ++ digits (l.count - l.at) l.rest ≡ digits l.count l.case
