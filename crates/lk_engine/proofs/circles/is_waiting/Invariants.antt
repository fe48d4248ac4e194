use Rattle.std.proofs.Common.{◌≡◌, take, false}
use Rattle.lk_engine.specs.Waiting.{is_waiting}
use Rattle.lk_engine.proofs.circles.is_waiting.Given as goal

abbrev pub invariant-loop-frame : goal.invariant-loop-frame
invariant-loop-frame l = is_waiting (take l.frame-index l.stack) l.asked ≡ false
