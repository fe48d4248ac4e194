-- How a program finds the plain verdict of a unit is right.
use Rattle.std.proofs.Common.{ℕ, suc, ◌≡◌, inl, inr, Bool, true, false, List, Option, Some, None, refl, ap, sym, ◌∙◌}
use Rattle.std.specs.Prelude.{slice_get, if◌then◌else◌}
use Rattle.lk_tree.specs.declared.rule.Rule.{Rule}
use Rattle.lk_tree.specs.declared.rule.Rule.TheVariants.{DuplicateName}
use Rattle.lk_rulebook.specs.Units.{LibraryUnit, of_decl, of_block, Library, members_of, place_of}
use Rattle.lk_questions.specs.Answer.{Outcome, answered, refused, spent}
use Rattle.lk_questions.specs.Erased.{Out, finished, stopped, used_up}
use Rattle.lk_env.specs.Places.{partial_beside}
use Rattle.lk_inductive.specs.NestedTask.{plain_whole}
use Rattle.lk_block.specs.Agreeing.{Agrees}
use Rattle.lk_block.specs.Stages.{block_stages}
use Rattle.lk_block.proofs.Staged.{goes_by_stages}
use Rattle.lk_rulebook.specs.Scan.{are_new, own_scan}
use Rattle.lk_questions.specs.Table.{steps}
use Rattle.lk_verdict.specs.GoodUnit.{IsClearLibrary, IsGoodUnit}
use Rattle.lk_verdict.specs.Verdict.{PlainVerdict, says_yes, says_no, says_steps, questions_of as plain_questions, verdict_by, verdict_of as plain_of, plain_verdict}
use Rattle.lk_verdict.specs.Told.{Verdict, accepted, rejected, told, IsPlainVerdict, OperationsAccepted}
use Rattle.lk_sound.proofs.GoodUnits.{good_of_yes}
use Rattle.lk_table_sound.proofs.Derivations.{sound_steps}
use Rattle.leancheck.specs.Rows.{questions_of, stages_verdict, row_verdict}

-- a scan of the names and of the unit's own lines, then the questions
by_tests : (new : Bool) (own : Option Rule) (q : PlainVerdict)
    → told (elim (if new then own else Some DuplicateName) as (λ y. PlainVerdict) [ Some r ↦ says_no r | None ↦ q ])
    ≡ (if new then (elim own as (λ y. Verdict) [ Some r ↦ rejected r | None ↦ told q ]) else rejected DuplicateName)
by_tests false own q = refl
by_tests true (Some r) q = refl
by_tests true None q = refl

agreed : {A : Type 0} (o : Outcome A) (p : Out) → Agrees o p → told (verdict_by o) ≡ stages_verdict p
agreed (answered v c t) (finished u left last) h = refl
agreed (answered v c t) (stopped r) h = absurd h
agreed (answered v c t) used_up h = absurd h
agreed (refused r) (finished u left last) h = absurd h
agreed (refused r) (stopped s) h = ap rejected h
agreed (refused r) used_up h = absurd h
agreed spent (finished u left last) h = absurd h
agreed spent (stopped s) h = absurd h
agreed spent used_up h = refl

unit_is : (us : Library) (n budget : ℕ) (u : LibraryUnit) → told (plain_of steps us n u budget) ≡ row_verdict us budget n u
unfolding questions_of
unit_is us n budget (of_decl d) =
    by_tests (are_new us n (members_of (of_decl d))) (own_scan (of_decl d)) (plain_questions steps us n (of_decl d) budget)
unit_is us n budget (of_block b rs) =
    by_tests (are_new us n (members_of (of_block b rs))) (own_scan (of_block b rs)) (plain_questions steps us n (of_block b rs) budget)
    ∙ ap (λ v. if are_new us n (members_of (of_block b rs)) then (elim (own_scan (of_block b rs)) as (λ y. Verdict) [ Some r ↦ rejected r | None ↦ v ]) else rejected DuplicateName)
    (agreed (plain_whole steps us n b rs budget) (block_stages steps (λ p aux. place_of us n (partial_beside (of_block b rs) p aux)) (suc budget) b rs budget) (goes_by_stages steps us n b rs budget))

-- the plain verdict is found so
plain_is : (us : Library) (n budget : ℕ) (u : LibraryUnit) → slice_get us n ≡ Some u → told (plain_verdict steps us n budget) ≡ row_verdict us budget n u
plain_is us n budget u there =
    ap (λ o. told (elim o as (λ y. PlainVerdict) [ Some u ↦ plain_of steps us n u budget | None ↦ says_steps ])) there ∙ unit_is us n budget u

told_yes : (p : PlainVerdict) → told p ≡ accepted → p ≡ says_yes
told_yes says_yes e = refl
told_yes (says_no r) e = absurd (cc)
told_yes says_steps e = absurd (cc)

-- a verdict that is found so is the plain one
pub found_plain : (us : Library) (budget n : ℕ) (u : LibraryUnit) (v : Verdict) → slice_get us n ≡ Some u → v ≡ row_verdict us budget n u → v ≡ told (plain_verdict steps us n budget)
found_plain us budget n u v there e = e ∙ sym (plain_is us n budget u there)

plain_yes : (us : Library) (budget n : ℕ) (v : Verdict) → IsPlainVerdict us budget n v → v ≡ accepted → plain_verdict steps us n budget ≡ says_yes
plain_yes us budget n v (inl e) says = told_yes (plain_verdict steps us n budget) (sym e ∙ says)
plain_yes us budget n v (inr e) says = absurd cc

-- a yes is good, where the operations before it are accepted
pub good_of_plain : (us : Library) → IsClearLibrary us → (budget : ℕ → ℕ) (vs : List Verdict) → ((n : ℕ) (v : Verdict) → slice_get vs n ≡ Some v → IsPlainVerdict us (budget n) n v) →
    (n : ℕ) (v : Verdict) → slice_get vs n ≡ Some v → v ≡ accepted → OperationsAccepted us vs n → IsGoodUnit us n
good_of_plain us clear budget vs each n v at says before =
    good_of_yes steps sound_steps us n (budget n) clear (λ m below gives. (budget m, plain_yes us (budget m) m accepted (each m accepted (before m below gives)) refl))
    (plain_yes us (budget n) n v (each n v at) says)
