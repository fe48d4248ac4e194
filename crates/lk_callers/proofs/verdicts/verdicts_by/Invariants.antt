use Rattle.std.proofs.Common.{◌≡◌, ℕ, List, length, map}
use Rattle.lk_verdict.specs.Held.{verdict}
use Rattle.lk_session.specs.declared.view.Submission.{Submission}
use Rattle.lk_session.specs.Texts.{Says, units_of}
use Rattle.lk_session.specs.Answers.{AreFrom}
use Rattle.lk_callers.specs.Answered.{AreRight}
use Rattle.lk_callers.proofs.verdicts.verdicts_by.Given as goal

abbrev pub invariant-loop-reply : goal.invariant-loop-reply
invariant-loop-reply l = record {
  count : length l.verdicts.items ≡ l.fn.count;
  each : (stated : Says) (budget : ℕ) (list : List Submission) → AreRight stated budget list l.fn.replies → AreFrom (units_of stated list) budget 0 (map verdict l.verdicts.items);
}
