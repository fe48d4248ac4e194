-- What the lines of a file with derivations come to, one after another.
use Rattle.std.specs.Prelude.{ℕ, ◌+◌, Bool, false, List, length, Result, Ok, Err, Option, Some, None}
use Rattle.lk_lines.specs.declared.line.Fault.{Fault}
use Rattle.lk_lines.specs.declared.tags.Tag.TheVariants as tag
use Rattle.lk_lines.specs.declared.tags.Dialect.TheVariants as dialects
use Rattle.lk_lines.specs.Limits.{limits}
use Rattle.lk_lines.specs.Reading.{◌>>=◌}
use Rattle.lk_lines.specs.Items.{Item}
use Rattle.lk_lines.specs.Says.{Says, Blank, Version, OfItem, said_in, said_behind_trace}
use Rattle.lk_book.specs.Course.{Course, begin_in, passed, at_line}
use Rattle.lk_book.specs.File.{after, export_stated}
use Rattle.lk_traced.specs.Placed.{Behind, begin_behind, before_taken, behind_taken}

-- course: the lines so far as those of a library, and what the numbers of expressions behind `#TR`
-- stand for; behind: what stands behind `#TR`, where the course is there
pub record TraceCourse : Type 0 where
  pub course : Course
  pub behind : Option Behind

abbrev pub begin_trace : TraceCourse
begin_trace = record { course = begin_in dialects.Trace; behind = None }

-- an item before `#TR`
abbrev pub item_before : Course → Item → Result TraceCourse Fault
item_before c item = at_line c.number (before_taken c.number c.state item.own item.tag item.values
    >>= λ s. Ok (record { course = record c { first = false; state = s }; behind = None }))

-- `#TR`: no block is open
abbrev pub trace_begun : Course → Result TraceCourse Fault
trace_begun c = after (export_stated c.state) (λ e.
    Ok (record { course = record c { first = false }; behind = Some (begin_behind e) }))

-- what a line before `#TR` says is taken
abbrev pub taken_before : Course → Says → Result TraceCourse Fault
taken_before c Blank = Ok (record { course = c; behind = None })
taken_before c Version = Ok (record { course = record c { first = false }; behind = None })
taken_before c (OfItem item) = elim item.tag [ tag.Trace ↦ trace_begun c | _ ↦ item_before c item ]

-- what a line behind `#TR` says is taken
abbrev pub taken_behind : Course → Behind → Says → Result TraceCourse Fault
taken_behind c b (OfItem item) = at_line c.number
    (behind_taken c.number c.state b item.own item.tag item.values >>= λ x.
    Ok (record { course = record c { state = x.state }; behind = Some x.behind }))
taken_behind c b says = Ok (record { course = c; behind = Some b })

-- what is taken of a line, once the line is passed
abbrev pub taken_line : Course → Option Behind → List ℕ → Result TraceCourse Fault
taken_line c None line = after (at_line c.number (said_in dialects.Trace c.first line))
    (taken_before c)
taken_line c (Some b) line = after (at_line c.number (said_behind_trace line)) (taken_behind c b)

-- What the next line makes of a course, or its first fault: the limits come first. `#TR` has the
-- fault of the first line that is open.
unfoldable pub trace_step : TraceCourse → Bool → List ℕ → Result TraceCourse Fault
trace_step t feed line = elim (limits t.course.before (length line) feed) [
  | Some w ↦ Err (record { line = t.course.number + 1; word = w })
  | None ↦ taken_line (passed t.course (length line) feed) t.behind line
]
