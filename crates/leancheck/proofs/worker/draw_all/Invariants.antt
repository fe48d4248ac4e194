use Rattle.std.proofs.Common.{◌≡◌, ◌≤◌, ◌-◌, length}
use Rattle.leancheck.specs.Workers.{IsPassed, Draws}
use Rattle.leancheck.proofs.worker.draw_all.Given as goal

abbrev pub invariant-loop-alloc : goal.invariant-loop-alloc
invariant-loop-alloc g l = record {
  library : l.engine.scope.library ≡ l.library;
  draws : Draws l.library l.settings.steps l.desk l.fn.seat l.seat l.answers.items;
  passed : IsPassed l.passed l.seat;
  most : l.passed ≤ length l.library.units;
}

abbrev pub decreases-loop-alloc : goal.decreases-loop-alloc
decreases-loop-alloc g l = length l.library.units - l.passed
