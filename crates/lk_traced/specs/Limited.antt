-- A line that is too long, or goes beyond the input's limit, is at fault by that alone.
use Rattle.std.specs.Prelude.{◌≡◌, ℕ, ◌+◌, Bool, List, length, Result, Ok, Err, Option, Some, None}
use Rattle.std.proofs.Common.{ap}
use Rattle.lk_store.specs.Contents.{Contents}
use Rattle.lk_lines.specs.declared.line.Fault.{Fault}
use Rattle.lk_lines.specs.declared.words.Word.{Word}
use Rattle.lk_lines.specs.Limits.{limits}
use Rattle.lk_book.specs.Course.{passed}
use Rattle.lk_traced.specs.Course.{TraceCourse, taken_line, trace_step}
use Rattle.lk_traced.specs.Standing.{StandsTrace}
use Rattle.lk_traced.specs.declared.reader.TraceReader.{TraceReader}

abbrev pub step_unless : TraceCourse → Bool → List ℕ → Option Word → Result TraceCourse Fault
step_unless t feed line o = elim o [
  | Some w ↦ Err (record { line = t.course.number + 1; word = w })
  | None ↦ taken_line (passed t.course (length line) feed) t.behind line
]

pub trace_limited : (r : TraceReader) (store : Contents) (t : TraceCourse) (feed : Bool)
    (line : List ℕ) (w : Word) → StandsTrace r store t
    → limits r.reader.before (length line) feed ≡ Some w
    → trace_step t feed line ≡ Err (record { line = r.reader.number + 1; word = w })
unfolding trace_step
trace_limited r store t feed line w h e =
    let long : limits t.course.before (length line) feed ≡ Some w = rw h.stands.before at e in
    rw h.stands.number (ap (step_unless t feed line) long)
