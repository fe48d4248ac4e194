-- What is told of a list of submissions.
use Rattle.std.specs.Prelude.{List, map}
use Rattle.lk_session.specs.declared.mark.Mark.{Mark}
use Rattle.lk_session.specs.declared.view.Submission.{Submission as Call}
use Rattle.lk_session.specs.Texts.{Says, units_in}
use Rattle.lk_text.specs.Text.{Submitted}
use Rattle.lk_text.specs.declared.submissions.Submission.{Submission}

-- each with its tag and the units of its text
abbrev pub told_submissions : Says → List Call → List Submitted
told_submissions stated list =
    map (λ (c : Call). record { tag = c.tag; units = units_in stated c.text }) list

abbrev pub told_of_mark : Mark → Submission
told_of_mark m = record { tag = m.tag; units = m.count }
