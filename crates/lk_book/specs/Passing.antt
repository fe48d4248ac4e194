-- What a reader of a library stands for, the lines that it takes, and bytes that lead from one course to another.
use Rattle.std.specs.Prelude.{◌≡◌, ◌≢◌, ℕ, List, ◌++◌}
use Rattle.lk_store.specs.Contents.{Contents}
use Rattle.lk_lines.specs.declared.line.LineError.{LineError}
use Rattle.lk_lines.specs.declared.line.LineError.TheVariants as errors
use Rattle.lk_lines.specs.declared.line.Statement.{Statement}
use Rattle.lk_lines.specs.declared.line.Statement.TheVariants as statement
use Rattle.lk_lines.specs.declared.tags.Dialect.TheVariants as dialects
use Rattle.lk_units.specs.Held.{IsKnown, Holds}
use Rattle.lk_units.specs.declared.assembler.TakeError.{TakeError}
use Rattle.lk_units.specs.declared.assembler.TakeError.TheVariants as take_errors
use Rattle.lk_book.specs.Course.{Course}
use Rattle.lk_book.specs.File.{lines_of, course_over}
use Rattle.lk_book.specs.declared.reader.Reader.{Reader}

-- the reader stands for the course
pub record Stands (r : Reader) (store : Contents) (c : Course) : Type 0 where
  pub dialect : r.dialect ≡ c.dialect
  pub first : r.first ≡ c.first
  pub number : r.number ≡ c.number
  pub before : r.before ≡ c.before
  pub holds : Holds r.assembler store c.state

-- a line that a library may have: its tag is none of those of derivations
abbrev pub IsLibraryLine : {N : Type 0} → Statement N → Type 0
IsLibraryLine statement.Trace = ⊥
IsLibraryLine (statement.Local own number declared_type) = ⊥
IsLibraryLine (statement.Section unit) = ⊥
IsLibraryLine (statement.Derivation own line) = ⊥
IsLibraryLine (statement.Parts premises) = ⊥
IsLibraryLine s = Unit {0}

-- the numbers that it has are numbers of the store, and its lines are those of libraries
pub record IsReaderKnown (r : Reader) (store : Contents) : Type 0 where
  pub assembled : IsKnown r.assembler store
  pub library : r.dialect ≢ dialects.Trace

-- the error of an item of this line
abbrev pub line_error : ℕ → TakeError → LineError
line_error number take_errors.NoMemory = errors.NoMemory
line_error number (take_errors.Fault w) = errors.Fault (record { line = number; word = w })

-- whatever follows, the course over these bytes goes on from d where only the last ones are left
abbrev pub Leads : Course → List ℕ → Course → List ℕ → Type 0
Leads c bytes d left = (rest : List ℕ) → course_over c (lines_of (bytes ++ rest)) ≡ course_over d (lines_of (left ++ rest))
