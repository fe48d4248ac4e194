-- What eta goes on with, once the answer is there that it waits for: all its lines, one behind the other.
use Rattle.std.specs.Prelude.{ℕ, Bool, Option, None, Result}
use Rattle.lk_tree.specs.Tree.{Tree}
use Rattle.lk_rulebook.specs.Place.{Place}
use Rattle.lk_questions.specs.Program.{Program, done}
use Rattle.lk_questions.specs.Erased.{Value, truth, Steps, gives, erased}
use Rattle.lk_questions.specs.Pairs.{yes_alone, ◌or_else◌}
use Rattle.lk_questions.specs.Eta.{by_structure_eta, by_unit_eta}
use Rattle.lk_questions.specs.Same.{by_function_eta}
use Rattle.lk_store.specs.declared.memory.NoMemory.{NoMemory}
use Rattle.lk_store.specs.Contents.{Contents, tree_at}
use Rattle.lk_ask.specs.declared.next.Line.{Line}
use Rattle.lk_ask.specs.Lines.{Rest, line_steps, GivesLine}
use Rattle.lk_ask.specs.Looks.{Sight}
use Rattle.lk_ask.specs.Sheets.{sheet_rest}
use Rattle.lk_eta.specs.declared.sheet.EtaTermSheet.{EtaTermSheet}
use Rattle.lk_eta.specs.declared.sheet.EtaTermSheet.TheVariants as term
use Rattle.lk_eta.specs.declared.sheet.EtaTruthSheet.{EtaTruthSheet}
use Rattle.lk_eta.specs.declared.sheet.EtaTruthSheet.TheVariants as truths
use Rattle.lk_eta.specs.declared.sheet.Way.{Way}
use Rattle.lk_eta.specs.declared.sheet.Way.TheVariants.{Given, Turned}
use Rattle.lk_eta.specs.Functions.{function_rest}
use Rattle.lk_eta.specs.Sheets.{EtaSheet, map_eta_term, map_eta_truth, map_eta_sheet, IsKnownEtaSheet}
use Rattle.lk_eta.specs.Structures.{structure_term_rest, structure_truth_rest}
use Rattle.lk_eta.specs.Units.{unit_rest}

-- the lines, from the last one up: what stands behind each of them, where p stands behind all
abbrev pub then_unit : Rest → Rest
then_unit p a b = by_unit_eta a b or_else p a b

abbrev pub then_turned : Rest → Rest
then_turned p a b = by_structure_eta b a or_else then_unit p a b

abbrev pub then_structure : Rest → Rest
then_structure p a b = by_structure_eta a b or_else then_turned p a b

abbrev pub then_function : Rest → Rest
then_function p a b = by_function_eta a b or_else then_structure p a b

-- what stands behind structure eta one way, and the other way, where it has the two turned
abbrev pub behind_way : Way → Rest → Rest
behind_way Given p a b = then_turned p a b
behind_way Turned p b a = then_unit p a b

-- what a sheet goes on with, once the term is there; p is what comes behind all lines, last the last unit that was looked at before
abbrev pub eta_term_rest : Rest → Place → Option ℕ → EtaTermSheet Tree → Tree → Steps
eta_term_rest p w last (term.Function s) e = function_rest (then_structure p) w last s e
eta_term_rest p w last (term.Structure way s) e = structure_term_rest (behind_way way p) w last s e
eta_term_rest p w last (term.Unit s) e = unit_rest p w last s e

-- the same, once yes or no is there
abbrev pub eta_truth_rest : Rest → Place → Option ℕ → EtaTruthSheet Tree → Bool → Steps
eta_truth_rest p w last (truths.Long a b) equal =
    erased w truth last (done (yes_alone equal) or_else then_structure p a b)
eta_truth_rest p w last (truths.Structure way s) equal =
    structure_truth_rest (behind_way way p) w last s equal
eta_truth_rest p w last truths.Passed equal = gives last (truth equal)

-- what it waits for, and goes on with
abbrev pub eta_rest : Rest → Place → Option ℕ → EtaSheet Tree → Value → Steps
eta_rest p w last = sheet_rest (eta_term_rest p w last) (eta_truth_rest p w last)

-- what eta does next; t is what numbers stand for
abbrev pub eta_line : Rest → Place → (ℕ → Tree) → Option ℕ → Line ℕ (EtaSheet ℕ) → Steps
eta_line p w t last line = line_steps p (λ s. eta_rest p w None (map_eta_sheet t s)) w t last line

-- a step of eta does what the program does, whatever comes behind it; t is what numbers stood for
abbrev pub Expands : {S R B : Type 0} → (S → Contents) → (S → R) → (R → Sight B) → S → S
    → Result (Line ℕ (EtaSheet ℕ)) NoMemory → (Rest → (ℕ → Tree) → Program Bool) → Type 0
Expands contents rest sight old new result program =
    GivesLine IsKnownEtaSheet eta_line contents rest sight old new result
    (λ p. erased (sight (rest old)).basis.place truth (sight (rest old)).last
    (program p (tree_at (contents old))))

-- it does what structure eta does next, and what comes behind it that way
abbrev pub Continues : {S R B : Type 0} → (S → Contents) → (S → R) → (R → Sight B) → S → S
    → Result (Line ℕ (EtaSheet ℕ)) NoMemory
    → (Rest → Place → (ℕ → Tree) → Option ℕ → Steps) → Type 0
Continues contents rest sight old new result steps =
    GivesLine IsKnownEtaSheet eta_line contents rest sight old new result
    (λ p. steps p (sight (rest old)).basis.place (tree_at (contents old)) (sight (rest old)).last)

-- it does what the sheet goes on with, now that the term is there
abbrev pub ResumesTerm : {S R B : Type 0} → (S → Contents) → (S → R) → (R → Sight B) → S → S
    → Result (Line ℕ (EtaSheet ℕ)) NoMemory → EtaTermSheet ℕ → ℕ → Type 0
ResumesTerm contents rest sight old new result sheet e =
    GivesLine IsKnownEtaSheet eta_line contents rest sight old new result
    (λ p. eta_term_rest p (sight (rest old)).basis.place (sight (rest old)).last
    (map_eta_term (tree_at (contents old)) sheet) (tree_at (contents old) e))

-- the same, now that yes or no is there
abbrev pub ResumesTruth : {S R B : Type 0} → (S → Contents) → (S → R) → (R → Sight B) → S → S
    → Result (Line ℕ (EtaSheet ℕ)) NoMemory → EtaTruthSheet ℕ → Bool → Type 0
ResumesTruth contents rest sight old new result sheet equal =
    GivesLine IsKnownEtaSheet eta_line contents rest sight old new result
    (λ p. eta_truth_rest p (sight (rest old)).basis.place (sight (rest old)).last
    (map_eta_truth (tree_at (contents old)) sheet) equal)
