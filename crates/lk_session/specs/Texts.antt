-- What texts state, and the texts of a list of submissions.
use Rattle.std.specs.Prelude.{◌≡◌, ℕ, ◌+◌, List, [], ◌∷◌, length, map, All, Vec, Result, Ok, Err}
use Rattle.std.specs.List.{flat_map}
use Rattle.std.specs.Arc.{arc_value}
use Rattle.std.specs.declared.sync.Arc.{Arc}
use Rattle.std.specs.declared.alloc.Global.{Global}
use Rattle.lk_rulebook.specs.Units.{Library}
use Rattle.lk_lines.specs.declared.line.Fault.{Fault}
use Rattle.lk_session.specs.declared.error.TextError.{TextError}
use Rattle.lk_session.specs.declared.error.TextError.TheVariants as text_errors
use Rattle.lk_session.specs.declared.error.SubmitError.{SubmitError}
use Rattle.lk_session.specs.declared.error.SubmitError.TheVariants as submit_errors
use Rattle.lk_session.specs.declared.mark.Mark.{Mark}
use Rattle.lk_session.specs.declared.view.Submission.{Submission}

-- the units that a text states, or its first fault
abbrev pub Says : Type 0
Says = List ℕ → Result Library Fault

-- the units of a text, none where it has a fault
abbrev pub units_or_none : Result Library Fault → Library
units_or_none (Ok us) = us
units_or_none (Err f) = []

abbrev pub units_in : Says → List ℕ → Library
units_in stated text = units_or_none (stated text)

abbrev pub IsFaultless : Says → List ℕ → Type 0
IsFaultless stated text = stated text ≡ Ok (units_in stated text)

-- the text's fault is told, or want of memory, which tells nothing of it
abbrev pub TellsFault : Result Library Fault → TextError → Type 0
TellsFault said (text_errors.Fault f) = said ≡ Err f
TellsFault said text_errors.NoMemory = Unit {0}

abbrev pub submit_error : TextError → SubmitError
submit_error (text_errors.Fault f) = submit_errors.Fault f
submit_error text_errors.NoMemory = submit_errors.NoMemory

abbrev pub texts_of : List Submission → List (List ℕ)
texts_of xs = map (λ (x : Submission). x.text) xs

-- the units of all these submissions, one after another
abbrev pub units_of : Says → List Submission → Library
units_of stated xs = flat_map (λ (x : Submission). units_in stated x.text) xs

-- what is told of each submission, where so many units stand before the first
abbrev pub marks_of : Says → ℕ → List Submission → List Mark
marks_of stated first [] = []
marks_of stated first (x ∷ xs) =
    record { tag = x.tag; first = first; count = length (units_in stated x.text) }
    ∷ marks_of stated (first + length (units_in stated x.text)) xs

-- a text that is shared, and its bytes
abbrev pub SharedText : Type 0
SharedText = Arc (Vec ℕ Global) Global

abbrev pub bytes_of : SharedText → List ℕ
bytes_of t = (arc_value t).items

abbrev pub AreFaultless : Says → List (List ℕ) → Type 0
AreFaultless stated texts = All (λ (t : List ℕ). IsFaultless stated t) texts
