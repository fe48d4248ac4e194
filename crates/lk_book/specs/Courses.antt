-- Lines that are taken one after another, where each makes of a course another one or has a fault:
-- what they come to, and what a reader tells of it that took some of them.
use Rattle.std.specs.Prelude.{◌≡◌, ◌≤◌, ◌^◌, ℕ, Bool, List, [], ◌∷◌, ◌++◌, Result, Ok, Err, Option, Some}
use Rattle.std.specs.Io.KnownBytes.{Consumes}
use Rattle.lk_lines.specs.declared.line.Fault.{Fault}
use Rattle.lk_lines.specs.declared.line.LineError.{LineError}
use Rattle.lk_lines.specs.declared.line.LineError.TheVariants as errors
use Rattle.lk_book.specs.File.{after, has_more, lines_of}
use Rattle.lk_book.specs.declared.error.ReadError.{ReadError}
use Rattle.lk_book.specs.declared.error.ReadError.TheVariants as read_errors

-- what a line makes of a course, which a line feed may end, or its fault
abbrev pub Step : Type 0 → Type 0
Step C = C → Bool → List ℕ → Result C Fault

-- what lines come to, of which each but the last has a line feed; the first faulty line's fault is
-- theirs
abbrev pub over : {C : Type 0} → Step C → C → List (List ℕ) → Result C Fault
over step c [] = Ok c
over step c (line ∷ more) = after (step c (has_more more) line) (λ d. over step d more)

-- The input is within its limit, and each line had a byte at least. It holds behind a line feed, so of all lines but
-- the last.
pub record IsCounted (number before : ℕ) : Type 0 where
  pub within : before ≤ 2 ^ 40
  pub lines : number ≤ before

-- memory ran out, or this is the fault
abbrev pub Fails : {A : Type 0} → LineError → Result A Fault → Type 0
Fails errors.NoMemory said = Unit {0}
Fails (errors.Fault f) said = said ≡ Err f

-- behind the line a reader stands for what the line makes of the course, or the line's fault is told
abbrev pub Goes : {C : Type 0} → (C → Type 0) → Result (Unit {0}) LineError → Result C Fault
    → Type 0
Goes Stands (Ok u) said = (d : _) × (said ≡ Ok d) × Stands d
Goes Stands (Err e) said = Fails e said

-- whatever follows, these bytes lead from c to d, where only the last ones are left
abbrev pub Leading : {C : Type 0} → Step C → C → List ℕ → C → List ℕ → Type 0
Leading step c bytes d left =
    (rest : List ℕ) → over step c (lines_of (bytes ++ rest)) ≡ over step d (lines_of (left ++ rest))

-- a reader stands for a course that these bytes lead to, but for the last ones of them
pub record Passes {C : Type 0} (step : Step C) (Stands : C → Type 0) (c : C) (bytes left : List ℕ)
    : Type 0 where
  pub course : C
  pub stands : Stands course
  pub leads : Leading step c bytes course left

-- memory ran out, or these bytes have this fault whatever follows
abbrev pub Stops : {C : Type 0} → Step C → LineError → C → List ℕ → Type 0
Stops step e c bytes = (rest : List ℕ) → Fails e (over step c (lines_of (bytes ++ rest)))

-- The bytes that were taken from the front led a reader to what it stands for, but for the last
-- ones of them.
pub record Remains {C : Type 0} (step : Step C) (Stands : C → Type 0) (c : C) (held : List ℕ)
    (old now : Option (List ℕ)) : Type 0 where
  pub bytes : List ℕ
  pub consumed : Consumes old now bytes
  pub passes : Passes step Stands c bytes held

-- the fault of a file that a source had at first; a failed read and want of memory tell nothing of
-- it
abbrev pub TellsFault : {C : Type 0} → Step C → C → ReadError → Option (List ℕ) → Type 0
TellsFault step c read_errors.NoMemory old = Unit {0}
TellsFault step c read_errors.ReadFault old = Unit {0}
TellsFault step c (read_errors.Fault f) old =
    (bytes : List ℕ) → old ≡ Some bytes → over step c (lines_of bytes) ≡ Err f

-- a reader stands for what the lines come to, or the fault of the first faulty line is told; a
-- failed read and want of memory tell nothing of the file
abbrev pub ReadsLines : {C : Type 0} → (C → Type 0) → Result C Fault
    → Result (Unit {0}) ReadError → Type 0
ReadsLines Stands said (Ok u) = (c : _) × (said ≡ Ok c) × Stands c
ReadsLines Stands said (Err read_errors.NoMemory) = Unit {0}
ReadsLines Stands said (Err read_errors.ReadFault) = Unit {0}
ReadsLines Stands said (Err (read_errors.Fault f)) = said ≡ Err f

-- a reader stands for what the lines of some file come to
abbrev pub ReadsSome : {C : Type 0} → Step C → (C → Type 0) → C → Type 0
ReadsSome step Stands c =
    (bytes : List ℕ) × ReadsLines Stands (over step c (lines_of bytes)) (Ok tt)
