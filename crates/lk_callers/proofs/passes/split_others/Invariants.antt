use Rattle.std.proofs.Common.{◌≡◌, length}
use Rattle.lk_callers.specs.Answered.{AreNew, IsIdle}
use Rattle.lk_callers.proofs.passes.split_others.Given as goal

abbrev pub invariant-loop-number : goal.invariant-loop-number
invariant-loop-number g l = record {
  idle : IsIdle l.pass.known;
  new : AreNew l.passes.items;
  count : l.number ≡ length l.passes.items;
}
