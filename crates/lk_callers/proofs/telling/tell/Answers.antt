use Rattle.std.proofs.Common.{List, Ok, Err, Result, map, ap, ◌∙◌, sym}
use Rattle.std.specs.Prelude.{IfOk}
use Rattle.lk_session.specs.declared.view.Submission.{Submission as Call}
use Rattle.lk_session.specs.Texts.{Says}
use Rattle.lk_callers.specs.Told.{told_submissions, told_of_mark}
use Rattle.lk_callers.proofs.Wholes.{marks_told, units_told}
use Rattle.lk_callers.proofs.telling.tell.Goals as goal

-- what is so of what came for each list is so for each list of what came
for_each : {A E : Type 0} (P R : Says → List Call → Type 0) (Q : A → Says → List Call → Type 0) (r : Result A E) → ((s : Says) (l : List Call) → P s l → R s l → IfOk r (λ a. Q a s l))
    → IfOk r (λ a. (s : Says) (l : List Call) → P s l → R s l → Q a s l)
for_each P R Q (Ok a) h = h
for_each P R Q (Err e) h = tt

pub returns : goal.returns
returns c = for_each _ _ _ c.session_report.result (λ s l m u. c.session_report.ensures (told_submissions s l) (units_told s l ∙ sym u)
    (c.deref.ensures.value ∙ (c.in_ok-submissions.ensures ∙ (ap (map told_of_mark) m ∙ marks_told s 0 l))))
