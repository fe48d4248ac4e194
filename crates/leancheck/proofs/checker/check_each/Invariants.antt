use Rattle.std.proofs.Common.{◌≡◌, length}
use Rattle.lk_env.specs.Units.{library_of}
use Rattle.leancheck.proofs.Changes.{AreChecks}
use Rattle.leancheck.proofs.checker.check_each.Given as goal

abbrev pub invariant-loop-i : goal.invariant-loop-i
invariant-loop-i g l = record {
  library : l.engine.scope.library ≡ l.library;
  as_many : length l.verdicts.items ≡ l.i;
  checks : AreChecks (library_of l.library) l.steps l.units l.verdicts.items;
}
