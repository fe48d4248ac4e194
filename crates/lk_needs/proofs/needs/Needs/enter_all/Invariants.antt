use Rattle.std.proofs.Common.{take}
use Rattle.lk_needs.specs.Marks.{Enters}
use Rattle.lk_needs.proofs.needs.Needs.enter_all.Given as goal

abbrev pub invariant-loop-thing : goal.invariant-loop-thing
invariant-loop-thing l = Enters l.initial.self l.self (take l.thing-index l.things)
