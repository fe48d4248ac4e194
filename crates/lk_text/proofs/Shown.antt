-- The lines of units, one unit after another.
use Rattle.std.proofs.Common.{◌≡◌, ℕ, ◌+◌, List, ◌∷◌, ◌++◌, map, ap, sym, ◌∙◌, append_assoc}
use Rattle.std.specs.Prelude.{slice_get}
use Rattle.lk_rulebook.specs.Units.{Library}
use Rattle.lk_reach.specs.Computed.{axioms_of}
use Rattle.lk_store.specs.Contents.{Contents}
use Rattle.lk_env.specs.declared.unit.Unit.{Unit as StoredUnit}
use Rattle.lk_env.specs.Units.{library_at}
use Rattle.lk_verdict.specs.declared.verdict.Verdict.{Verdict as HeldVerdict}
use Rattle.lk_verdict.specs.Held.{verdict}
use Rattle.lk_text.specs.Text.{axiom_at, axioms_text, lines_text}
use Rattle.lk_text.specs.Names.{unit_lines, unit_text}
use Rattle.lk_text.specs.Replayed.{outcome_line, outcome_lines}
use Rattle.lk_trace.specs.declared.outcome.Outcome.{Outcome}
use Rattle.lk_trace.specs.Outcomes.{outcome_at}

-- the lines of one more unit
pub text_more : (us : Library) (c : Contents) (out new whole : List ℕ) (n : ℕ) (ks : List ℕ) (left more : List StoredUnit) (u : StoredUnit) (said others : List HeldVerdict) (v : HeldVerdict) → left ≡ u ∷ more → said ≡ v ∷ others → ks ≡ axioms_of us n
    → new ≡ out ++ (unit_lines c n u (verdict v) ++ axioms_text us ks) → out ++ lines_text us n (library_at c left) (map verdict said) ≡ whole → new ++ lines_text us (n + 1) (library_at c more) (map verdict others) ≡ whole
text_more us c out new whole n ks left more u said others v e f axs pushed h =
    let rest = lines_text us (n + 1) (library_at c more) (map verdict others) in
    let own = unit_lines c n u (verdict v) in
    ap (λ x. x ++ rest) (pushed ∙ ap (λ x. out ++ (own ++ axioms_text us x)) axs) ∙ append_assoc out (own ++ axioms_text us (axioms_of us n)) rest ∙ ap (λ x. out ++ x) (append_assoc own (axioms_text us (axioms_of us n)) rest)
    ∙ ap (λ l. out ++ lines_text us n (library_at c l) (map verdict (v ∷ others))) (sym e) ∙ ap (λ l. out ++ lines_text us n (library_at c left) (map verdict l)) (sym f) ∙ h

-- the lines of one more axiom
pub axioms_more : (us : Library) (out new whole : List ℕ) (k : ℕ) (left more : List ℕ) → left ≡ k ∷ more → new ≡ out ++ axiom_at (slice_get us k) → out ++ axioms_text us left ≡ whole → new ++ axioms_text us more ≡ whole
axioms_more us out new whole k left more e pushed h =
    ap (λ x. x ++ axioms_text us more) pushed ∙ append_assoc out (axiom_at (slice_get us k)) (axioms_text us more) ∙ ap (λ l. out ++ axioms_text us l) (sym e) ∙ h

-- the line of one more unit, by what comes of its section
pub outcomes_more : (c : Contents) (out new whole : List ℕ) (n : ℕ) (left more : List StoredUnit) (u : StoredUnit) (rest others : List Outcome) (o : Outcome) → left ≡ u ∷ more → rest ≡ o ∷ others
    → new ≡ out ++ outcome_line n (unit_text c u) (outcome_at o) → out ++ outcome_lines n (library_at c left) (map outcome_at rest) ≡ whole → new ++ outcome_lines (n + 1) (library_at c more) (map outcome_at others) ≡ whole
outcomes_more c out new whole n left more u rest others o e f pushed h =
    let behind = outcome_lines (n + 1) (library_at c more) (map outcome_at others) in
    ap (λ x. x ++ behind) pushed ∙ append_assoc out (outcome_line n (unit_text c u) (outcome_at o)) behind
    ∙ ap (λ l. out ++ outcome_lines n (library_at c l) (map outcome_at (o ∷ others))) (sym e) ∙ ap (λ l. out ++ outcome_lines n (library_at c left) (map outcome_at l)) (sym f) ∙ h
