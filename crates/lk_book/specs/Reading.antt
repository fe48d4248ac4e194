-- Reading a source.
use Rattle.std.specs.Prelude.{◌≡◌, ◌+◌, ℕ, List, ◌∷◌, [], length, map, All, Result, Ok, Err, None}
use Rattle.std.specs.declared.option.Option.{Option}
use Rattle.std.specs.Io.KnownBytes.{Consumes}
use Rattle.lk_store.specs.Contents.{Contents}
use Rattle.lk_store.specs.Store.{contents_of}
use Rattle.lk_env.specs.StoredLibrary.{StoredLibrary}
use Rattle.lk_env.specs.Units.{library_at, AreUnitsIn}
use Rattle.lk_rulebook.specs.Units.{Library}
use Rattle.lk_token.specs.Lines.{HasNoLineFeed}
use Rattle.lk_lines.specs.declared.words.Word.{Word}
use Rattle.lk_lines.specs.declared.line.Fault.{Fault}
use Rattle.lk_lines.specs.declared.line.LineError.{LineError}
use Rattle.lk_lines.specs.declared.line.LineError.TheVariants as line_errors
use Rattle.lk_lines.specs.Limits.{limits}
use Rattle.lk_units.specs.Held.{Holds}
use Rattle.lk_units.specs.declared.assembler.Assembler.{Assembler}
use Rattle.lk_lines.specs.declared.tags.Dialect.{Dialect}
use Rattle.lk_book.specs.Course.{Course}
use Rattle.lk_book.specs.Courses.{Fails}
use Rattle.lk_book.specs.File.{Export, export_at, has_more, course_in, rounds_of}
use Rattle.lk_book.specs.declared.rounds.Rounds.{Rounds}
use Rattle.lk_book.specs.declared.error.ReadError.{ReadError}
use Rattle.lk_book.specs.declared.error.ReadError.TheVariants as errors

abbrev pub read_error : LineError → ReadError
read_error line_errors.NoMemory = errors.NoMemory
read_error (line_errors.Fault f) = errors.Fault f

-- what the assembler holds is what the lines of the file state, or the fault of the first faulty
-- line is told; a failed read and want of memory tell nothing of the file
abbrev pub Reads : Contents → Result Course Fault → Result Assembler ReadError → Type 0
Reads store said (Ok a) = (c : Course) × (said ≡ Ok c) × Holds a store c.state
Reads store said (Err errors.NoMemory) = Unit {0}
Reads store said (Err errors.ReadFault) = Unit {0}
Reads store said (Err (errors.Fault f)) = said ≡ Err f

-- the same of lines in memory
abbrev pub HoldsLines : Contents → Result Course Fault → Result Assembler LineError → Type 0
HoldsLines store said (Ok a) = (c : Course) × (said ≡ Ok c) × Holds a store c.state
HoldsLines store said (Err e) = Fails e said

-- the library is what the file states, or the file's fault is told
abbrev pub ReadsLibrary : Result Export Fault → Result StoredLibrary ReadError → Type 0
ReadsLibrary said (Ok l) = said ≡ Ok (export_at l)
ReadsLibrary said (Err errors.NoMemory) = Unit {0}
ReadsLibrary said (Err errors.ReadFault) = Unit {0}
ReadsLibrary said (Err (errors.Fault f)) = said ≡ Err f

-- the units of each part, by their store
abbrev pub parts_at : Rounds → List Library
parts_at r = map (λ us. library_at (contents_of r.base) us.items) r.parts.items

-- the units of each part are in the store
abbrev pub ArePartsIn : Rounds → Type 0
ArePartsIn r = All (λ us. AreUnitsIn (contents_of r.base) us.items) r.parts.items

-- the parts are those that some file states
abbrev pub AreStated : Rounds → Type 0
AreStated r = (bytes : List ℕ) × (rounds_of bytes ≡ Ok (parts_at r))

-- the parts are what the file states, or the file's fault is told
abbrev pub ReadsRounds : Result (List Library) Fault → Result Rounds ReadError → Type 0
ReadsRounds said (Ok r) = said ≡ Ok (parts_at r)
ReadsRounds said (Err errors.NoMemory) = Unit {0}
ReadsRounds said (Err errors.ReadFault) = Unit {0}
ReadsRounds said (Err (errors.Fault f)) = said ≡ Err f

-- the assembler holds what the lines of some file state
abbrev pub HoldsSome : Dialect → Contents → Assembler → Type 0
HoldsSome dialect store a = (bytes : List ℕ) × Reads store (course_in dialect bytes) (Ok a)

-- want of memory, or this fault
abbrev pub TellsOpen : {A : Type 0} → ReadError → Result A Fault → Type 0
TellsOpen errors.NoMemory said = Unit {0}
TellsOpen errors.ReadFault said = ⊥
TellsOpen (errors.Fault f) said = said ≡ Err f

-- some bytes were taken from the front
abbrev pub ConsumesSome : Option (List ℕ) → Option (List ℕ) → Type 0
ConsumesSome old new = (bytes : List ℕ) × Consumes old new bytes

-- the fault that the first of these lines has by its length
abbrev pub first_limits : ℕ → List (List ℕ) → Option Word
first_limits before [] = None
first_limits before (line ∷ more) = limits before (length line) (has_more more)

-- bytes without a line feed were taken from the front, so that a line of so many bytes has so many
-- now
pub record Skips (old now : Option (List ℕ)) (length_old length_now : ℕ) : Type 0 where
  pub bytes : List ℕ
  pub consumed : Consumes old now bytes
  pub unfinished : HasNoLineFeed bytes
  pub counted : length_now ≡ length_old + length bytes
