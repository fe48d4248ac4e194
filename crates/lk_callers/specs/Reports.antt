-- What is told of texts that callers add to one list.
use Rattle.std.specs.Prelude.{◌≡◌, ℕ, List, length, map}
use Rattle.lk_verdict.specs.Held.{verdict}
use Rattle.lk_text.specs.Text.{Submitted, submitted_units, session_text}
use Rattle.lk_session.specs.declared.view.Submission.{Submission}
use Rattle.lk_session.specs.Texts.{Says, units_in, units_of}
use Rattle.lk_session.specs.Answers.{AreFrom}
use Rattle.lk_callers.specs.Orders.{IsOrder}
use Rattle.lk_callers.specs.Owned.{text_at}
use Rattle.lk_callers.specs.Told.{told_submissions}
use Rattle.lk_callers.specs.declared.report.SessionReport.{SessionReport}

-- the texts in an order, each with its number as the tag and with its units
abbrev pub submitted_in : Says → List (List ℕ) → List ℕ → List Submitted
submitted_in stated texts order =
    map (λ k. record { tag = k; units = units_in stated (text_at texts k) }) order

-- what is told of this list: the verdict of each unit is the plain one under the budget, or memory
pub record IsListReport (stated : Says) (list : List Submission) (budget : ℕ) (r : SessionReport)
    : Type 0 where
  pub as_many : length r.verdicts.items ≡ length (units_of stated list)
  pub plain : AreFrom (units_of stated list) budget 0 (map verdict r.verdicts.items)
  pub text_is : r.text.items
      ≡ session_text (told_submissions stated list) (map verdict r.verdicts.items)

-- What is told is that of the texts in some order in which each caller's texts rise: each unit's
-- verdict is the plain one in the list that they make in this order, under the budget, or memory.
pub record IsSessionReport (stated : Says) (texts : List (List ℕ)) (callers budget : ℕ)
    (r : SessionReport) : Type 0 where
  pub order : List ℕ
  pub in_order : IsOrder (length texts) callers order
  pub as_many : length r.verdicts.items
      ≡ length (submitted_units (submitted_in stated texts order))
  pub plain : AreFrom (submitted_units (submitted_in stated texts order)) budget 0
      (map verdict r.verdicts.items)
  pub text_is : r.text.items
      ≡ session_text (submitted_in stated texts order) (map verdict r.verdicts.items)
