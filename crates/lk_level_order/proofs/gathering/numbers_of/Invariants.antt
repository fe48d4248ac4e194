use Rattle.std.proofs.Common.{◌≡◌, take}
use Rattle.lk_level_order.specs.Parameters.{numbers}
use Rattle.lk_level_order.proofs.gathering.numbers_of.Given as goal

abbrev pub invariant-loop-i : goal.invariant-loop-i
invariant-loop-i l = l.numbers.items ≡ numbers (take l.i l.names)
