-- What the lines of a file come to, one after another, and what one more line makes of it.
use Rattle.std.specs.Prelude.{ℕ, ◌+◌, Bool, true, false, List, length, Result, Ok, Err, Some, None, if◌then◌else◌}
use Rattle.std.specs.declared.option.Option.{Option}
use Rattle.lk_lines.specs.declared.words.Word.{Word}
use Rattle.lk_lines.specs.declared.line.Fault.{Fault}
use Rattle.lk_lines.specs.Limits.{limits}
use Rattle.lk_lines.specs.Reading.{◌>>=◌}
use Rattle.lk_lines.specs.declared.tags.Dialect.{Dialect}
use Rattle.lk_lines.specs.declared.tags.Dialect.TheVariants.{Export}
use Rattle.lk_lines.specs.Says.{Says, Blank, Version, OfItem, said_in}
use Rattle.lk_units.specs.State.{State, begin, take_item}

-- dialect: which tags the lines may have; first: whether the lines so far are blank; number: how many they are;
-- before: how many bytes they have, line feeds counted; state: what their items state
pub record Course : Type 0 where
  pub dialect : Dialect
  pub first : Bool
  pub number : ℕ
  pub before : ℕ
  pub state : State

abbrev pub begin_in : Dialect → Course
begin_in dialect =
    record { dialect = dialect; first = true; number = 0; before = 0; state = begin }

-- the same for an export
abbrev pub begin_course : Course
begin_course = begin_in Export

abbrev pub feed_count : Bool → ℕ
feed_count feed = if feed then 1 else 0

-- behind a line of so many bytes, which a line feed may follow
abbrev pub passed : Course → ℕ → Bool → Course
passed c length feed = record c { number = c.number + 1; before = c.before + length + feed_count feed }

-- what a line says is taken; a blank line and the version change nothing that is stated
abbrev pub taken : Course → Says → Result Course Word
taken c Blank = Ok c
taken c Version = Ok (record c { first = false })
taken c (OfItem item) = take_item c.number c.state item >>= λ s. Ok (record c { first = false; state = s })

-- the fault of the limits, or else what is said
abbrev pub unless : {A : Type 0} → Option Word → Result A Word → Result A Word
unless (Some w) said = Err w
unless None said = said

-- the fault is one of this line
abbrev pub at_line : {A : Type 0} → ℕ → Result A Word → Result A Fault
at_line number (Ok x) = Ok x
at_line number (Err w) = Err (record { line = number; word = w })

-- What the next line makes of a course, or its first fault: the limits come first, then what the bytes say, then
-- whether the item may stand there. The line feed that ends the line is none of its bytes.
unfoldable pub step : Course → Bool → List ℕ → Result Course Fault
step c feed line = at_line (c.number + 1) (unless (limits c.before (length line) feed) (said_in c.dialect c.first line
    >>= taken (passed c (length line) feed)))
