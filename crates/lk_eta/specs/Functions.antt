-- What function eta goes on with, once the term is there that it waits for.
use Rattle.std.specs.Prelude.{ℕ, Option}
use Rattle.lk_tree.specs.Tree.{Tree}
use Rattle.lk_rulebook.specs.Place.{Place}
use Rattle.lk_questions.specs.Query.{whnf}
use Rattle.lk_questions.specs.Program.{ask}
use Rattle.lk_questions.specs.Erased.{truth, Steps, erased}
use Rattle.lk_questions.specs.Pairs.{Line, ◌or_else◌}
use Rattle.lk_questions.specs.Same.{eta_first, eta_second}
use Rattle.lk_ask.specs.Lines.{Rest}
use Rattle.lk_eta.specs.declared.sheet.FunctionSheet.{FunctionSheet}
use Rattle.lk_eta.specs.declared.sheet.FunctionSheet.TheVariants.{First, FirstForm, Second, SecondForm}

-- T is the type of a, and b a lambda
abbrev pub first_line : Tree → Tree → Tree → Line
first_line a b T = ask (whnf T) (λ P. eta_first a b P)

-- T is the type of b, and a a lambda
abbrev pub second_line : Tree → Tree → Tree → Line
second_line a b T = ask (whnf T) (λ P. eta_second b a P)

-- what a sheet goes on with, once the term is there; p is what comes behind the line, last the last unit that was looked at before
abbrev pub function_rest : Rest → Place → Option ℕ → FunctionSheet Tree → Tree → Steps
function_rest p w last (First a b) T = erased w truth last (first_line a b T or_else p a b)
function_rest p w last (FirstForm a b) P = erased w truth last (eta_first a b P or_else p a b)
function_rest p w last (Second a b) T = erased w truth last (second_line a b T or_else p a b)
function_rest p w last (SecondForm a b) P = erased w truth last (eta_second b a P or_else p a b)
