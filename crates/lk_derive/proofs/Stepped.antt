-- The line of a step is added.
use Rattle.std.proofs.Common.{◌≡◌, ℕ, true, List, sym, subst}
use Rattle.std.specs.Prelude.{Vec, All}
use Rattle.std.specs.declared.alloc.Global.{Global}
use Rattle.lk_rulebook.specs.Place.{Place}
use Rattle.lk_rulebook.specs.Claims.{Claim}
use Rattle.lk_written.specs.Section.{line_holds}
use Rattle.lk_store.specs.Contents.{Contents}
use Rattle.lk_trace.specs.Meaning.{line_of}
use Rattle.lk_premises.specs.Claims.{claims_at}
use Rattle.lk_step.specs.declared.step.Step.{Step}
use Rattle.lk_step.specs.Steps as steps
use Rattle.lk_step.specs.Steps.{AreNamed, StepHolds}
use Rattle.lk_step.specs.Rows.{IsThere}
use Rattle.lk_step.specs.Meaning.{step_at, IsStepIn}
use Rattle.lk_derive.specs.declared.notes.Notes.{Notes}
use Rattle.lk_derive.specs.Notes.{stated_at, IsNotes, AddsLine, Writes}
use Rattle.lk_derive.proofs.Claimed.{step_claim, step_premises, line_with, step_line, step_line_in}
use Rattle.lk_derive.proofs.Noted.{stated_keeps, stated_there, noted}

-- what a step rests on is there
pub rests_on : (c : Contents) (ps : List Claim) (s : Step) → All (IsThere ps) (steps.premises_of (step_at c s)) → All (IsThere ps) (claims_at c s.premises.items)
rests_on c ps s h = subst (All (IsThere ps)) (step_premises c s) h

pub step_written : (w : Place) (c : Contents) (old new : Notes) (s : Step) (js : Vec ℕ Global) → IsStepIn c s → IsNotes w c old → StepHolds w (step_at c s)
    → AreNamed (stated_at c old) (claims_at c s.premises.items) js.items → AddsLine old new (line_with s js) → Writes w c old new (steps.claim_of (step_at c s))
step_written w c old new s js step_in h holds named adds =
    let ps = stated_at c old in
    let own : AreNamed ps (steps.premises_of (step_at c s)) js.items = subst (λ cs. AreNamed ps cs js.items) (sym (step_premises c s)) named in
    let line : line_holds w ps (line_of c (line_with s js)) ≡ true = subst (λ l. line_holds w ps l ≡ true) (step_line c s js) (holds ps js.items own) in
    record {
      notes = noted c old new (line_with s js) adds h.indexed (step_line_in c s js step_in) w h line;
      keeps = stated_keeps c old new (line_with s js) adds;
      there = subst (IsThere (stated_at c new)) (step_claim c s) (stated_there c old new (line_with s js) adds);
    }
