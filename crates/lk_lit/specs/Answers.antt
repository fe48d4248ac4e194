-- What waits for the answer of one question that is the answer of the whole, and texts, which keep nothing else.
use Rattle.std.specs.Prelude.{ℕ, Bool, Option, None, Result}
use Rattle.lk_tree.specs.Tree.{Tree}
use Rattle.lk_rulebook.specs.Place.{Place}
use Rattle.lk_questions.specs.Program.{Program}
use Rattle.lk_questions.specs.Erased.{truth, Steps, gives, with_truth, erased}
use Rattle.lk_store.specs.declared.memory.NoMemory.{NoMemory}
use Rattle.lk_store.specs.Contents.{Contents, tree_at}
use Rattle.lk_ask.specs.declared.next.Line.{Line}
use Rattle.lk_ask.specs.Lines.{Rest, line_steps, GivesLine}
use Rattle.lk_ask.specs.Looks.{Sight}
use Rattle.lk_lit.specs.declared.answer.AnswerSheet.{AnswerSheet}
use Rattle.lk_lit.specs.declared.answer.AnswerSheet.TheVariants.{Passed}

abbrev pub map_answer : AnswerSheet → AnswerSheet
map_answer Passed = Passed

-- it keeps no number
abbrev pub IsKnownAnswer : ℕ → AnswerSheet → Type 0
IsKnownAnswer n Passed = Unit {0}

-- what it goes on with, once yes or no is there; last is the last unit that was looked at before
abbrev pub answer_rest : Option ℕ → AnswerSheet → Bool → Steps
answer_rest last Passed equal = gives last (truth equal)

-- what two trees by texts do next, where p stands behind; t is what numbers stand for
abbrev pub texts_line : Rest → Place → (ℕ → Tree) → Option ℕ → Line ℕ AnswerSheet → Steps
texts_line p w t last line = line_steps p (λ s. with_truth (answer_rest None s)) w t last line

-- a step does what the program does, whatever comes behind it; t is what numbers stood for
abbrev pub ComparesTexts : {S R B : Type 0} → (S → Contents) → (S → R) → (R → Sight B) → S → S
    → Result (Line ℕ AnswerSheet) NoMemory → (Rest → (ℕ → Tree) → Program Bool) → Type 0
ComparesTexts contents rest sight old new result program =
    GivesLine IsKnownAnswer texts_line contents rest sight old new result
    (λ p. erased (sight (rest old)).basis.place truth (sight (rest old)).last
    (program p (tree_at (contents old))))
