-- What the bytes of a file state, or the file's fault: an export, or a library and changes of it.
use Rattle.std.specs.Prelude.{ℕ, ◌==◌, Bool, true, false, List, [], ◌∷◌, ◌++◌, Result, Ok, Err, Some, None}
use Rattle.std.specs.declared.option.Option.{Option}
use Rattle.std.specs.List.{slice_split}
use Rattle.lk_rulebook.specs.Units.{Library}
use Rattle.lk_env.specs.Units.{library_of}
use Rattle.lk_env.specs.Budgets.{StatedBudget, own_budget, budget_within, budgets_of}
use Rattle.lk_env.specs.StoredLibrary.{StoredLibrary}
use Rattle.lk_tree.specs.Mentions.{same_name}
use Rattle.lk_members.specs.Faults.{first_open}
use Rattle.lk_members.specs.Plain.{PlainLine, library_stated}
use Rattle.lk_lines.specs.declared.words.Word.TheVariants.{BlockOpen}
use Rattle.lk_lines.specs.declared.line.Fault.{Fault}
use Rattle.lk_units.specs.State.{State}
use Rattle.lk_lines.specs.declared.tags.Dialect.{Dialect}
use Rattle.lk_lines.specs.declared.tags.Dialect.TheVariants as dialects
use Rattle.lk_book.specs.Course.{Course, begin_in, step}

-- what an export states: its units, and what its lines state of their budgets
pub record Export : Type 0 where
  pub units : Library
  pub budgets : List StatedBudget

-- the budget of unit n in a run that gives each unit so many steps
abbrev pub budget_of : Export → ℕ → ℕ → ℕ
budget_of e steps n = budget_within steps (own_budget e.units e.budgets n)

-- the export that a library in a store is
abbrev pub export_at : StoredLibrary → Export
export_at l = record { units = library_of l; budgets = budgets_of l }

-- The lines of bytes: what stands between line feeds, and behind the last one. So a line feed ends
-- each but the last, which is empty where the bytes end with a line feed.
unfoldable pub lines_of : List ℕ → List (List ℕ)
lines_of bytes = slice_split (λ b. b == 10) bytes

abbrev pub has_more : {A : Type 0} → List A → Bool
has_more [] = false
has_more (x ∷ xs) = true

-- the next step, or the fault of the one before
abbrev pub after : {A B : Type 0} → Result A Fault → (A → Result B Fault) → Result B Fault
after (Ok c) next = next c
after (Err f) next = Err f

-- the course over lines, of which each but the last has a line feed; the first faulty line's fault
-- is theirs
abbrev pub course_over : Course → List (List ℕ) → Result Course Fault
course_over c [] = Ok c
course_over c (line ∷ more) = after (step c (has_more more) line) (λ d. course_over d more)

unfoldable pub course_in : Dialect → List ℕ → Result Course Fault
course_in dialect bytes = course_over (begin_in dialect) (lines_of bytes)

-- the same of an export
abbrev pub course_of : List ℕ → Result Course Fault
course_of bytes = course_in dialects.Export bytes

-- the units that lines state, where none is open
abbrev pub closed : Option ℕ → List PlainLine → Result Library Fault
closed None lines = Ok (library_stated lines)
closed (Some number) lines = Err (record { line = number; word = BlockOpen })

abbrev pub units_stated : List PlainLine → Result Library Fault
units_stated lines = closed (first_open same_name lines lines) lines

-- what all lines together state, where none is open
abbrev pub export_stated : State → Result Export Fault
export_stated s =
    after (units_stated s.lines) (λ us. Ok (record { units = us; budgets = s.budgets }))

-- what the lines of the file state, or its first fault: that of a line, else that of the first line
-- that is open
abbrev pub export_of : List ℕ → Result Export Fault
export_of bytes = after (course_of bytes) (λ c. export_stated c.state)

-- the units that the lines of each part state, where none is open
abbrev pub parts_stated : List (List PlainLine) → Result (List Library) Fault
parts_stated [] = Ok []
parts_stated (lines ∷ parts) =
    after (units_stated lines) (λ us. after (parts_stated parts) (λ vs. Ok (us ∷ vs)))

-- the parts that are ended, and the last one, which the end of the file ends
abbrev pub rounds_stated : State → Result (List Library) Fault
rounds_stated s = parts_stated (s.parts ++ s.lines ∷ [])

-- What the parts of a file state, or its first fault: that of a line, else that of the first line
-- that is open in its part. The first part is a library, and each later one is a change of it.
abbrev pub rounds_of : List ℕ → Result (List Library) Fault
rounds_of bytes = after (course_in dialects.Rounds bytes) (λ c. rounds_stated c.state)
