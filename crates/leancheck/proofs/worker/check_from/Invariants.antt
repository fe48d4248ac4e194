use Rattle.std.proofs.Common.{◌≡◌, vec_len}
use Rattle.leancheck.specs.Drawn.{AreRight, numbers}
use Rattle.leancheck.proofs.worker.check_from.Given as goal

abbrev pub invariant-loop-i : goal.invariant-loop-i
invariant-loop-i g l = record {
  library : l.engine.scope.library ≡ l.library;
  count : vec_len l.answers ≡ vec_len l.fn.answers;
  numbers : numbers l.answers.items ≡ numbers l.fn.answers.items;
  right : AreRight l.library l.steps l.answers.items;
}
