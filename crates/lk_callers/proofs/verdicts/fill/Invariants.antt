use Rattle.std.proofs.Common.{◌≡◌, ℕ, List, length, map}
use Rattle.lk_verdict.specs.Held.{verdict}
use Rattle.lk_session.specs.declared.view.Submission.{Submission}
use Rattle.lk_session.specs.Texts.{Says, units_of}
use Rattle.lk_session.specs.Answers.{AreFrom}
use Rattle.lk_callers.specs.Answered.{IsRight}
use Rattle.lk_callers.proofs.verdicts.fill.Given as goal

abbrev pub invariant-loop-k : goal.invariant-loop-k
invariant-loop-k l = record {
  count : length l.verdicts.items ≡ length l.fn.verdicts.items;
  each : (stated : Says) (budget : ℕ) (list : List Submission) → IsRight stated budget list l.fn.reply → AreFrom (units_of stated list) budget 0 (map verdict l.fn.verdicts.items)
      → AreFrom (units_of stated list) budget 0 (map verdict l.verdicts.items);
}
