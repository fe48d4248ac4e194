-- A pass that has each place of the list has seen the whole of it, and what is told of it is that of all texts.
use Rattle.std.proofs.Common.{◌≡◌, ℕ, zero, suc, ◌+◌, ◌<◌, ◌≤◌, inl, inr, List, [], ◌∷◌, ◌++◌, length, map, take, refl, sym, ap, ◌∙◌, subst, arith, count_by}
use Rattle.std.specs.Prelude.{◌==◌}
use Rattle.std.proofs.lemmas.Bool.Decides.{nat_tests}
use Rattle.std.proofs.lemmas.Bool.{cases_lt}
use mathlib.Core.List.{IsPrefix}
use Rattle.std.proofs.lemmas.List.{length-map}
use Rattle.lk_rulebook.specs.Units.{Library}
use Rattle.lk_store.specs.Store.{contents_of}
use Rattle.lk_env.specs.StoredLibrary.{StoredLibrary}
use Rattle.lk_env.specs.Units.{library_of, unit_at}
use Rattle.lk_env.specs.declared.unit.Unit.{Unit as StoredUnit}
use Rattle.lk_verdict.specs.Held.{verdict}
use Rattle.lk_text.specs.Text.{Submitted, submitted_units, session_text, told_of}
use Rattle.lk_session.specs.declared.view.View.{View}
use Rattle.lk_session.specs.declared.view.Submission.{Submission}
use Rattle.lk_session.specs.Rule.{times, once_below}
use Rattle.lk_session.specs.Steps.{HasEach}
use Rattle.lk_session.specs.Texts.{Says, units_in, units_of, marks_of}
use Rattle.lk_session.specs.Answers.{AreFrom}
use Rattle.lk_session.proofs.Prefixes.{prefix_whole, prefix_length}
use Rattle.lk_callers.specs.declared.turns.Turns.{Turns}
use Rattle.lk_callers.specs.declared.report.SessionReport.{SessionReport}
use Rattle.lk_callers.specs.Turns.{AreTurns}
use Rattle.lk_callers.specs.Owned.{text_at, call_of, AreOwn, HasAll}
use Rattle.lk_callers.specs.Told.{told_submissions, told_of_mark}
use Rattle.lk_callers.specs.Reports.{submitted_in, IsListReport, IsSessionReport}
use Rattle.lk_callers.proofs.Ordering.{tags_of, submitted_at, by_tags, ordered}

-- each place is an own one that was there before, so nothing came since
pub nothing_more : (v w x : View) → ((k : ℕ) → 0 < times k v → k < length v.seen) → IsPrefix v.seen w.seen → IsPrefix w.seen x.seen → x.mine ≡ v.mine → HasEach x (length x.seen) → w.seen ≡ x.seen
nothing_more v w x own p q mine each = elim (cases_lt (length w.seen) (length x.seen)) [
  | inr le ↦ prefix_whole w.seen x.seen q le
  | inl lt ↦
      let last : ℕ = length w.seen in
      let one : once_below last (length x.seen) ≡ 1 = grind (arith, nat_tests, lt) in
      let same : times last x ≡ times last v = ap (λ (l : List ℕ). count_by (λ y. y == last) l) mine in
      let there = own last (omega (arith, each last, one, same)) in
      let n = prefix_length v.seen w.seen p in
      absurd (omega (arith, there, n))
]

pub take_whole : {A : Type 0} (xs : List A) (n : ℕ) → length xs ≤ n → take n xs ≡ xs
take_whole [] zero le = refl
take_whole [] (suc n) le = refl
take_whole (x ∷ xs) zero le = absurd (omega arith)
take_whole {A} (x ∷ xs) (suc n) le = ap (λ (l : List A). x ∷ l) (take_whole xs n (omega arith))

-- how many units a library has that has read them all
pub units_counted : (stated : Says) (lib : StoredLibrary) (us : List StoredUnit) (read : ℕ) (seen : List Submission) → us ≡ lib.units → library_of lib ≡ units_of stated (take read seen) → length seen ≤ read → length us ≡ length (units_of stated seen)
units_counted stated lib us read seen is units all =
    ap (λ (xs : List StoredUnit). length xs) is ∙ (sym (length-map lib.units (unit_at (contents_of lib.tables))) ∙ ap length (units ∙ ap (units_of stated) (take_whole seen read all)))

-- the tags and counts of submissions, from what is told of them
pub marks_told : (stated : Says) (first : ℕ) (list : List Submission) → map told_of_mark (marks_of stated first list) ≡ map told_of (told_submissions stated list)
marks_told stated first [] = refl
marks_told stated first (c ∷ list) = let r = marks_told stated (first + length (units_in stated c.text)) list in λ i. record { tag = c.tag; units = length (units_in stated c.text) } ∷ r i

pub units_told : (stated : Says) (list : List Submission) → submitted_units (told_submissions stated list) ≡ units_of stated list
units_told stated [] = refl
units_told stated (c ∷ list) = ap (λ (us : Library). units_in stated c.text ++ us) (units_told stated list)

told_calls : (stated : Says) (texts : List (List ℕ)) (order : List ℕ) → told_submissions stated (map (call_of texts) order) ≡ submitted_in stated texts order
told_calls stated texts [] = refl
told_calls stated texts (k ∷ order) = let r = told_calls stated texts order in λ i. record { tag = k; units = units_in stated (text_at texts k) } ∷ r i

-- what is told of the list is that of all texts in the list's order
pub session_is : (stated : Says) (texts : List (List ℕ)) (t : Turns) (budget : ℕ) (v : View) (r : SessionReport) → AreTurns t → AreOwn texts t 0 t.passes (length texts) v → HasAll texts t 0 t.passes (length texts) v → HasEach v (length v.seen)
    → IsListReport stated v.seen budget r → IsSessionReport stated texts t.callers budget r
session_is stated texts t budget v r are own all each i =
    let order = tags_of v.seen in
    let seen : v.seen ≡ map (call_of texts) order = by_tags texts v.seen (λ j k e. (submitted_at texts t are v own each j k e).1.call) in
    let told : told_submissions stated v.seen ≡ submitted_in stated texts order = ap (told_submissions stated) seen ∙ told_calls stated texts order in
    let units : units_of stated v.seen ≡ submitted_units (submitted_in stated texts order) = sym (units_told stated v.seen) ∙ ap submitted_units told in
    record {
      order = order;
      in_order = ordered texts t are v own each all;
      as_many = i.as_many ∙ ap (λ (us : Library). length us) units;
      plain = subst (λ (us : Library). AreFrom us budget 0 (map verdict r.verdicts.items)) units i.plain;
      text_is = i.text_is ∙ ap (λ (ss : List Submitted). session_text ss (map verdict r.verdicts.items)) told;
    }
