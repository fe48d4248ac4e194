-- The lines of submissions, one submission after another.
use Rattle.std.proofs.Common.{◌≡◌, ℕ, ◌+◌, List, [], ◌∷◌, ◌++◌, map, length, refl, ap, sym, ◌∙◌, arith}
use Rattle.std.specs.Prelude.{take, drop}
use Rattle.std.proofs.lemmas.List.{length-map, take-map, drop-map, take_at, drop_at, append-nil}
use Rattle.lk_rulebook.specs.Units.{Library}
use Rattle.lk_store.specs.Contents.{Contents}
use Rattle.lk_env.specs.declared.unit.Unit.{Unit as StoredUnit}
use Rattle.lk_env.specs.Units.{unit_at, library_at}
use Rattle.lk_verdict.specs.declared.verdict.Verdict.{Verdict as HeldVerdict}
use Rattle.lk_verdict.specs.Held.{verdict}
use Rattle.lk_text.specs.declared.submissions.Submission.{Submission}
use Rattle.lk_text.specs.Text.{lines_text, Submitted, told_of, submission_line, submissions_text, submitted_units}

module _ (us : Library) (c : Contents) where
  -- the lines of submissions, each of which has as many of the units that are left as it says
  abbrev pub counted_lines : ℕ → List Submission → List StoredUnit → List HeldVerdict → List ℕ
  counted_lines n [] left said = []
  counted_lines n (s ∷ more) left said =
      submission_line s.tag ++ (lines_text us n (library_at c (take s.units left)) (map verdict said)
      ++ counted_lines (n + length (take s.units left)) more (drop s.units left) (drop s.units said))

  -- where the submissions have the units that are left, these are their lines
  pub are_submitted : (n : ℕ) (ss : List Submitted) (left : List StoredUnit) (said : List HeldVerdict) → submitted_units ss ≡ library_at c left → counted_lines n (map told_of ss) left said ≡ submissions_text us n ss (map verdict said)
  are_submitted n [] left said e = refl
  are_submitted n (s ∷ more) left said e =
      let k = length s.units in
      let line = submission_line s.tag in
      let after : ℕ → List ℕ = λ m. counted_lines (n + m) (map told_of more) (drop k left) (drop k said) in
      let own : library_at c (take k left) ≡ s.units = sym (take-map (unit_at c) k left) ∙ ap (take k) (sym e) ∙ take_at s.units (submitted_units more) k refl in
      let later : submitted_units more ≡ library_at c (drop k left) = sym (drop_at s.units (submitted_units more) k refl) ∙ ap (drop k) e ∙ drop-map (unit_at c) k left in
      let many : length (take k left) ≡ k = sym (length-map (take k left) (unit_at c)) ∙ ap length own in
      ap (λ x. line ++ (lines_text us n x (map verdict said) ++ after (length (take k left)))) own
      ∙ ap (λ m. line ++ (lines_text us n s.units (map verdict said) ++ after m)) many
      ∙ ap (λ x. line ++ (lines_text us n s.units (map verdict said) ++ x))
      (are_submitted (n + k) more (drop k left) (drop k said) later ∙ ap (submissions_text us (n + k) more) (sym (drop-map verdict k said)))

  -- once no submission is left all lines are there
  pub all_written : (out new : List ℕ) (n : ℕ) (rest all : List Submission) (left units : List StoredUnit) (said verdicts : List HeldVerdict) (ss : List Submitted) → length rest ≡ 0 → submitted_units ss ≡ library_at c units → all ≡ map told_of ss
      → new ++ counted_lines n rest left said ≡ out ++ counted_lines 0 all units verdicts → new ≡ out ++ submissions_text us 0 ss (map verdict verdicts)
  all_written out new n [] all left units said verdicts ss end same told h =
      sym (append-nil new) ∙ h ∙ ap (λ x. out ++ counted_lines 0 x units verdicts) told ∙ ap (λ x. out ++ x) (are_submitted 0 ss units verdicts same)
  all_written out new n (s ∷ rest) all left units said verdicts ss end same told h = absurd (omega arith)
