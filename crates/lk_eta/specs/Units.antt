-- What eta of unit-like types goes on with, once the term is there that it waits for.
use Rattle.std.specs.Prelude.{ℕ, List, Option, if◌then◌else◌}
use Rattle.lk_tree.specs.Tree.{Tree}
use Rattle.lk_tree.specs.Spine.{head, args}
use Rattle.lk_rulebook.specs.Place.{Place, Kind}
use Rattle.lk_questions.specs.Query.{whnf, infer, same}
use Rattle.lk_questions.specs.Program.{ask, asked, ◌>>=◌}
use Rattle.lk_questions.specs.Erased.{truth, Steps, erased}
use Rattle.lk_questions.specs.Pairs.{Line, answers, ◌or_else◌, goes_on}
use Rattle.lk_questions.specs.Eta.{is_unit_like_at, eta_unit}
use Rattle.lk_ask.specs.Lines.{Rest}
use Rattle.lk_eta.specs.declared.sheet.UnitSheet.{UnitSheet}
use Rattle.lk_eta.specs.declared.sheet.UnitSheet.TheVariants.{Left, LeftForm, Right}

-- the head of the type of a, which is A, is a constant of this kind, applied to bs
abbrev pub kind_line : Tree → Tree → Kind → List Tree → Line
kind_line b A k bs =
    (if is_unit_like_at k bs then (do
      B ← asked (infer b)
      answers (asked (same A B)))
    else goes_on)

-- A is the type of a, and T its weak head form
abbrev pub form_line : Tree → Tree → Tree → Tree → Line
form_line a b A T = eta_unit a b A (head T) (args T)

abbrev pub left_line : Tree → Tree → Tree → Line
left_line a b A = ask (whnf A) (λ T. form_line a b A T)

-- what a sheet goes on with, once the term is there; p is what comes behind the line, last the last unit that was looked at before
abbrev pub unit_rest : Rest → Place → Option ℕ → UnitSheet Tree → Tree → Steps
unit_rest p w last (Left a b) A = erased w truth last (left_line a b A or_else p a b)
unit_rest p w last (LeftForm a b A) T = erased w truth last (form_line a b A T or_else p a b)
unit_rest p w last (Right a b A) B = erased w truth last (answers (asked (same A B)) or_else p a b)
