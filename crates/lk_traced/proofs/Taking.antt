-- A line of a file with derivations, on either side of `#TR`.
use Rattle.std.proofs.Common.{◌≡◌, ℕ, ◌+◌, Bool, List, length, Ok, Err, Some, None, refl, ap, ◌∙◌, arith}
use Rattle.std.specs.Prelude.{Option, Result}
use Rattle.lk_store.specs.Contents.{Contents}
use Rattle.lk_lines.specs.declared.line.Fault.{Fault}
use Rattle.lk_lines.specs.declared.line.LineError.{LineError}
use Rattle.lk_lines.specs.declared.line.LineError.TheVariants as errors
use Rattle.lk_lines.specs.Limits.{limits}
use Rattle.lk_units.specs.State.{State}
use Rattle.lk_book.specs.Course.{feed_count, passed}
use Rattle.lk_book.specs.Courses.{Goes, Fails}
use Rattle.lk_book.specs.File.{export_stated}
use Rattle.lk_book.specs.Passing.{Stands}
use Rattle.lk_book.specs.declared.reader.Reader.{Reader}
use Rattle.lk_traced.specs.Begun.{HoldsSections}
use Rattle.lk_traced.specs.Course.{TraceCourse, taken_line, trace_step}
use Rattle.lk_traced.specs.Limited.{step_unless}
use Rattle.lk_traced.specs.Placed.{Behind}
use Rattle.lk_traced.specs.Standing.{HoldsBehind, StandsTrace, GoesBefore, GoesBehind}
use Rattle.lk_traced.specs.declared.reader.TraceReader.{TraceReader}
use Rattle.lk_traced.specs.declared.sections.Sections.{Sections}

none_behind : (c : Contents) (s : State) (b : Option Behind) → HoldsBehind None c s b → b ≡ None
none_behind c s None h = refl
none_behind c s (Some b) h = absurd h

-- what stands behind `#TR` in the course
record StandsBehind (x : Sections) (c : Contents) (s : State) (o : Option Behind) : Type 0 where
  behind : Behind
  is : o ≡ Some behind
  holds : HoldsSections x c behind
  export : export_stated s ≡ Ok behind.export

some_behind : (x : Sections) (c : Contents) (s : State) (o : Option Behind) → HoldsBehind (Some x) c s o → StandsBehind x c s o
some_behind x c s None h = absurd h
some_behind x c s (Some b) h = record { behind = b; is = refl; holds = h.0; export = h.1 }

module _ (r : TraceReader) (k : Contents) (t : TraceCourse) (feed : Bool) (line : List ℕ) (h : StandsTrace r k t) where
  -- the line is passed
  abbrev pub passed_trace : TraceCourse
  passed_trace = record { course = passed t.course (length line) feed; behind = t.behind }

  pub stands_passed : (n : TraceReader) → n.reader ≡ record r.reader { number = r.reader.number + 1; before = r.reader.before + (length line + feed_count feed) } → n.behind ≡ r.behind → StandsTrace n k passed_trace
  stands_passed n e f =
      let b = h.stands.before in
      record {
        stands = rw e (record { dialect = h.stands.dialect; first = h.stands.first; number = ap (λ n. n + 1) h.stands.number; before = omega arith; holds = h.stands.holds });
        behind = rw f h.behind;
      }

  -- and is within the limits
  pub step_is : limits r.reader.before (length line) feed ≡ None → trace_step t feed line ≡ taken_line (passed t.course (length line) feed) t.behind line
  unfolding trace_step
  step_is w = let short : limits t.course.before (length line) feed ≡ None = rw h.stands.before at w in ap (step_unless t feed line) short

module _ (r : TraceReader) (k : Contents) (t : TraceCourse) (line : List ℕ) (h : StandsTrace r k t) where
  -- before `#TR`, or at that line
  module _ (none : r.behind ≡ None) where
    before_is : taken_line t.course t.behind line ≡ taken_line t.course None line
    before_is = ap (λ o. taken_line t.course o line) (none_behind k t.course.state t.behind (rw none at h.behind))

    pub before_goes : (n : TraceReader) (d : Contents) → GoesBefore n.reader d (Ok n.behind) (taken_line t.course None line) → Goes (StandsTrace n d) (Ok tt) (taken_line t.course t.behind line)
    before_goes n d g = (g.0, before_is ∙ g.1, record { stands = g.2; behind = g.3 })

    pub before_stops : (e : LineError) → Fails e (taken_line t.course None line) → Fails e (taken_line t.course t.behind line)
    before_stops errors.NoMemory g = tt
    before_stops (errors.Fault f) g = before_is ∙ g

  -- behind it
  module _ (x : Sections) (some : r.behind ≡ Some x) where
    stood : StandsBehind x k t.course.state t.behind
    stood = some_behind x k t.course.state t.behind (rw some at h.behind)

    behind_is : taken_line t.course t.behind line ≡ taken_line t.course (Some stood.behind) line
    behind_is = ap (λ o. taken_line t.course o line) stood.is

    -- what holds of whatever the sections stand for
    abbrev pub ForBehind : (Behind → Type 0) → Type 0
    ForBehind P = (b : Behind) → HoldsSections x k b → export_stated t.course.state ≡ Ok b.export → P b

    pub behind_goes : (n : TraceReader) (y : Sections) (d : Contents) → n.behind ≡ Some y → ForBehind (λ b. GoesBefore n.reader d (Ok (Some y)) (taken_line t.course (Some b) line))
        → Goes (StandsTrace n d) (Ok tt) (taken_line t.course t.behind line)
    behind_goes n y d e g = let m = g stood.behind stood.holds stood.export in (m.0, behind_is ∙ m.1, record { stands = m.2; behind = rw e m.3 })

    pub behind_stops : (e : LineError) → ForBehind (λ b. Fails e (taken_line t.course (Some b) line)) → Fails e (taken_line t.course t.behind line)
    behind_stops errors.NoMemory g = tt
    behind_stops (errors.Fault f) g = behind_is ∙ g stood.behind stood.holds stood.export

    pub behind_steps : (n : TraceReader) (y : Sections) (d : Contents) (result : Result (Unit {0}) LineError) → n.behind ≡ Some y → ForBehind (λ b. GoesBehind n.reader y d result (taken_line t.course (Some b) line))
        → Goes (StandsTrace n d) result (taken_line t.course t.behind line)
    behind_steps n y d (Ok u) e g = behind_goes n y d e g
    behind_steps n y d (Err f) e g = behind_stops f g
