-- Answers that are spelled, and their numbers in an overlay.
use Rattle.std.specs.Prelude.{◌≡◌, length}
use Rattle.lk_questions.specs.Erased.{Value, a_tree, truth}
use Rattle.lk_store.specs.Contents.{Contents, tree_at}
use Rattle.lk_spell.specs.Spelled.{IsSpelled, spelled_tree}
use Rattle.lk_ask.specs.Questions.{value_at, IsKnownAnswer}
use Rattle.lk_ask.specs.declared.kept.Kept.{Kept}
use Rattle.lk_desk.specs.declared.entry.Entry.{Entry}
use Rattle.lk_desk.specs.declared.entry.SpelledAnswer.{SpelledAnswer}
use Rattle.lk_desk.specs.declared.entry.SpelledAnswer.TheVariants.{Term, Truth}

-- what an answer stands for over the contents of a library
abbrev pub spelled_value : Contents → SpelledAnswer → Value
spelled_value b (Term s) = a_tree (spelled_tree b s)
spelled_value b (Truth t) = truth t

abbrev pub IsSpelledAnswer : Contents → SpelledAnswer → Type 0
IsSpelledAnswer b (Term s) = IsSpelled b s
IsSpelledAnswer b (Truth t) = Unit {0}

-- what an entry says over the contents b of a library, what is kept says by numbers of c
pub record IsMade (b c : Contents) (entry : Entry) (kept : Kept) : Type 0 where
  pub known : IsKnownAnswer (length c.trees) kept.answer
  pub value : value_at (tree_at c) kept.answer ≡ spelled_value b entry.answer
  pub cost : kept.cost ≡ entry.cost
  pub top : kept.top ≡ entry.top
