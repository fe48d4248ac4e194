-- Two trees by texts, and whatever stands behind them.
use Rattle.std.specs.Prelude.{ℕ, Bool, List}
use Rattle.lk_tree.specs.Tree.{Tree}
use Rattle.lk_questions.specs.Program.{Program, ◌>>=◌}
use Rattle.lk_questions.specs.LiteralLines.{same_first, same_second, text_second, by_string}
use Rattle.lk_questions.specs.Pairs.{◌or_else◌, ◌or_line◌}
use Rattle.lk_questions.specs.Strings.{expansion_of}
use Rattle.lk_ask.specs.Lines.{Rest}

abbrev pub texts_then : Rest → Tree → Tree → Program Bool
texts_then p a b = by_string a b or_else p a b

-- the first one is no text beside String.mk
abbrev pub then_second : Rest → Tree → Tree → Program Bool
then_second p a b = text_second a b or_else p a b

-- the second one is this text
abbrev pub second_expanded : Rest → List ℕ → Tree → Tree → Program Bool
second_expanded p s a b = (expansion_of s >>= λ x. same_second a x) or_else p a b

-- the first one is this text
abbrev pub first_expanded : Rest → List ℕ → Tree → Tree → Program Bool
first_expanded p s a b = ((expansion_of s >>= λ x. same_first x b) or_line text_second a b) or_else p a b
