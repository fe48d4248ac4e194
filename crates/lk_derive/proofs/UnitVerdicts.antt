-- A declaration that is said yes to under a budget.
use Rattle.std.proofs.Common.{ℕ, ◌≡◌, Bool, true, false, [], Option, Some, None, refl, subst}
use Rattle.std.specs.Prelude.{slice_get}
use Rattle.lk_tree.proofs.Scans.{and_true}
use Rattle.lk_rulebook.specs.Place.{Place}
use Rattle.lk_rulebook.specs.Derived.{BodyWellFormed}
use Rattle.lk_rulebook.specs.Scan.{IsScanned, is_none, scan_of}
use Rattle.lk_rulebook.specs.Units.{Body, as_axiom, as_def, as_thm, as_opaque, as_quot, Decl, LibraryUnit, of_decl, Library, trees_of, body_trees, place_of}
use Rattle.lk_rulebook.proofs.Scans.{scan_right, AllStated, scanned_stated}
use Rattle.lk_questions.specs.Answer.{Outcome, outcome_of, plain_answer}
use Rattle.lk_questions.specs.Declarations.{Yes, unit_steps}
use Rattle.lk_questions.specs.Laws.{IsSteady}
use Rattle.lk_questions.specs.Table.{steps}
use Rattle.lk_questions.specs.Tests.{passes}
use Rattle.lk_questions.proofs.Budgets.{run_steady, ans_steady}
use Rattle.lk_verdict.specs.Verdict.{says_yes, questions_of, verdict_of, plain_verdict}
use Rattle.lk_verdict.proofs.Verdicts.{IsAnswer, yes_answer, scanned_yes, yes_of}
use Rattle.lk_sound.proofs.Statedness.{all_well_stated}
use Rattle.lk_claims.proofs.Pieces.{Some_inj}
use Rattle.lk_written.specs.Section.{Section, section_test, unit_section, section_holds}
use Rattle.lk_store.specs.Contents.{Contents}
use Rattle.lk_trace.specs.declared.sections.Section as stored
use Rattle.lk_trace.specs.Meaning.{section_of}
use Rattle.lk_step.proofs.Runs.{runs_of}
use Rattle.lk_derive.specs.Units.{HasParts, IsYes, IsUnitSection}
use Rattle.lk_derive.proofs.UnitRuns.{unit_runs}

body_well_formed : (ps : _) (b : Body) → AllStated (body_trees ps b) → BodyWellFormed b
body_well_formed ps as_axiom h = tt
body_well_formed ps (as_def i v) h = h.0.0
body_well_formed ps (as_thm v) h = h.0.0
body_well_formed ps (as_opaque v) h = h.0.0
body_well_formed ps as_quot h = tt

at_unit : (us : Library) (n : ℕ) (o : Option LibraryUnit) (u : LibraryUnit) (s : Section) → o ≡ Some u → unit_section us n u s ≡ true → elim o as (λ y. Bool) [ Some u ↦ unit_section us n u s | None ↦ false ] ≡ true
at_unit us n (Some v) u s e h = let i : v ≡ u = cc in rw i h
at_unit us n None u s e h = absurd cc

module _ (us : Library) (n budget : ℕ) (d : Decl) (at : slice_get us n ≡ Some (of_decl d)) (said : plain_verdict steps us n budget ≡ says_yes) where
  past_scan : (scan_of us n (of_decl d) ≡ None) × (questions_of steps us n (of_decl d) budget ≡ says_yes)
  past_scan =
      let a : (u : LibraryUnit) × (slice_get us n ≡ Some u) × (verdict_of steps us n u budget ≡ says_yes) = yes_of steps us n budget (slice_get us n) said in
      let e : Some a.0 ≡ Some (of_decl d) = cc in
      scanned_yes (scan_of us n (of_decl d)) (questions_of steps us n (of_decl d) budget) (subst (λ u. verdict_of steps us n u budget ≡ says_yes) (Some_inj e) a.2)

  has_parts : HasParts (place_of us n []) budget d
  has_parts =
      let w : Place = place_of us n [] in
      let g : ℕ → Outcome Yes = λ b. outcome_of w (plain_answer steps w) b (unit_steps d) in
      let a : IsAnswer (g budget) (IsSteady g budget) = yes_answer (g budget) (IsSteady g budget) (run_steady w (plain_answer steps w) (ans_steady steps w) (unit_steps d) budget) past_scan.1 in
      unit_runs w budget d a.value a.cost a.has.paid (runs_of w (unit_steps d) budget a.value a.cost a.top a.is)

  pub yes_parts : IsYes (place_of us n []) budget d
  yes_parts =
      let sc : IsScanned us n (of_decl d) = scan_right us n (of_decl d) past_scan.0 in
      let st : AllStated (trees_of (of_decl d)) = scanned_stated (trees_of (of_decl d)) sc.trees in
      record { stated = all_well_stated us n; fine = (st.0.0, body_well_formed d.levels d.body st.1); parts = has_parts }

pub section_with_parts : (us : Library) (n budget : ℕ) (d : Decl) (c : Contents) (number : ℕ) (s : stored.Section) → slice_get us n ≡ Some (of_decl d) → plain_verdict steps us n budget ≡ says_yes →
    IsUnitSection (place_of us n []) c number d s → section_holds us n (section_of c s) ≡ true
section_with_parts us n budget d c number s at said h =
    let scan : is_none (scan_of us n (of_decl d)) ≡ true = rw ((past_scan us n budget d at said).0) refl in
    at_unit us n (slice_get us n) (of_decl d) (section_of c s) at
    (and_true (is_none (scan_of us n (of_decl d))) (passes (section_test (place_of us n []) d (section_of c s))) scan h.passes)
