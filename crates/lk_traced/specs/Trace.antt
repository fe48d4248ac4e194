-- What the bytes of a file with derivations state, or the file's fault.
use Rattle.std.specs.Prelude.{ℕ, List, [], ◌∷◌, Result, Ok, Err, Option, Some, None}
use Rattle.lk_lines.specs.declared.words.Word.TheVariants.{TraceOrder}
use Rattle.lk_lines.specs.declared.line.Fault.{Fault}
use Rattle.lk_book.specs.File.{after, has_more, lines_of, Export, export_stated}
use Rattle.lk_written.specs.Outcomes.{FileSection}
use Rattle.lk_traced.specs.Placed.{Behind, OpenSection}
use Rattle.lk_traced.specs.Course.{TraceCourse, begin_trace, trace_step}

-- a library with the budgets that lines state, and what is written for units, in the order of the
-- file
pub record Trace : Type 0 where
  pub export : Export
  pub sections : List FileSection

-- the course over lines, of which each but the last has a line feed; the first faulty line's fault
-- is theirs
abbrev pub trace_over : TraceCourse → List (List ℕ) → Result TraceCourse Fault
trace_over t [] = Ok t
trace_over t (line ∷ more) = after (trace_step t (has_more more) line) (λ u. trace_over u more)

unfoldable pub trace_course : List ℕ → Result TraceCourse Fault
trace_course bytes = trace_over begin_trace (lines_of bytes)

-- no section is open; else the line that begins it is at fault
abbrev pub trace_behind : Behind → Option OpenSection → Result Trace Fault
trace_behind b None = Ok (record { export = b.export; sections = b.sections })
trace_behind b (Some o) = Err (record { line = o.number; word = TraceOrder })

-- what the lines together state; a file without `#TR` has no sections
abbrev pub trace_stated : TraceCourse → Option Behind → Result Trace Fault
trace_stated t None =
    after (export_stated t.course.state) (λ e. Ok (record { export = e; sections = [] }))
trace_stated t (Some b) = trace_behind b b.begun

-- What the lines of the file state, or its first fault: that of a line, or of the first line of a
-- block that is open at `#TR` or at the end of a file without it, or of a section that is open at
-- the end.
abbrev pub trace_of : List ℕ → Result Trace Fault
trace_of bytes = after (trace_course bytes) (λ t. trace_stated t t.behind)
