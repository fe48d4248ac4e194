-- Two trees by texts: what is compared in their place.
use Rattle.std.specs.Prelude.{ℕ, Bool, false, Option, Some, None}
use Rattle.lk_tree.specs.Tree.{Tree, str}
use Rattle.lk_rulebook.specs.Place.{Place}
use Rattle.lk_questions.specs.Query.{same}
use Rattle.lk_questions.specs.Program.{Program, done}
use Rattle.lk_questions.specs.Erased.{Steps, asks, truth, erased}
use Rattle.lk_questions.specs.LiteralLines.{by_string}
use Rattle.lk_questions.specs.Pairs.{◌or_else◌}
use Rattle.lk_written.specs.Line.{EqualityRule, str_left_rule, str_right_rule}
use Rattle.lk_ask.specs.declared.sheet.Pair.{Pair}
use Rattle.lk_ask.specs.declared.query.Query.TheVariants.{Same}
use Rattle.lk_ask.specs.declared.next.Next.{Next}
use Rattle.lk_ask.specs.declared.next.Next.TheVariants.{Ask}
use Rattle.lk_ask.specs.declared.next.Line.{Line}
use Rattle.lk_ask.specs.declared.next.Line.TheVariants.{Goes}
use Rattle.lk_lit.specs.declared.answer.AnswerSheet.{AnswerSheet}

-- the two trees that are asked for next, whether they are the same
abbrev pub pair_asked : Steps → Option (Pair Tree)
pair_asked (asks t (same x y) k) = Some (record { left = x; right = y })
pair_asked _ = None

-- by texts, and by nothing behind them
abbrev pub texts_alone : Tree → Tree → Program Bool
texts_alone a b = by_string a b or_else done false

-- the two that are compared in place of a and b
abbrev pub texts_pair : Place → Option ℕ → Tree → Tree → Option (Pair Tree)
texts_pair w last a b = pair_asked (erased w truth last (texts_alone a b))

-- the numbers of two that are asked for next
abbrev pub numbers_in : Next ℕ AnswerSheet → Option (Pair ℕ)
numbers_in (Ask (Same x y) s) = Some (record { left = x; right = y })
numbers_in _ = None

abbrev pub numbers_asked : Line ℕ AnswerSheet → Option (Pair ℕ)
numbers_asked (Goes next) = numbers_in next
numbers_asked _ = None

-- the rule, by whether the first of two is a text
abbrev pub text_rule : Tree → EqualityRule
text_rule (str s) = str_left_rule
text_rule _ = str_right_rule
