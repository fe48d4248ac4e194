-- What the lines of a whole file come to.
use Rattle.std.proofs.Common.{◌≡◌, ℕ, List, [], ◌∷◌, Ok, Err, refl, sym, ◌∙◌, ap}
use Rattle.std.specs.Prelude.{Result}
use Rattle.lk_store.specs.Contents.{Contents}
use Rattle.lk_lines.specs.declared.line.Fault.{Fault}
use Rattle.lk_book.specs.Courses.{over, ReadsLines}
use Rattle.lk_book.specs.File.{lines_of, has_more, after}
use Rattle.lk_book.specs.declared.error.ReadError.{ReadError}
use Rattle.lk_book.specs.declared.error.ReadError.TheVariants as read_errors
use Rattle.lk_trace.specs.declared.traced.Traced.{Traced}
use Rattle.lk_traced.specs.Course.{TraceCourse, begin_trace, trace_step}
use Rattle.lk_traced.specs.Held.{ReadsTrace}
use Rattle.lk_traced.specs.Standing.{StandsTrace}
use Rattle.lk_traced.specs.Trace.{Trace, trace_over, trace_course, trace_stated, trace_of}
use Rattle.lk_traced.specs.declared.reader.TraceReader.{TraceReader}

after_same : (said : Result TraceCourse Fault) (f g : TraceCourse → Result TraceCourse Fault) → ((t : TraceCourse) → f t ≡ g t) → after said f ≡ after said g
after_same (Ok t) f g e = e t
after_same (Err x) f g e = refl

over_is : (t : TraceCourse) (lines : List (List ℕ)) → over trace_step t lines ≡ trace_over t lines
over_is t [] = refl
over_is t (line ∷ more) = after_same (trace_step t (has_more more) line) (λ u. over trace_step u more) (λ u. trace_over u more) (λ u. over_is u more)

course_is : (bytes : List ℕ) → over trace_step begin_trace (lines_of bytes) ≡ trace_course bytes
unfolding trace_course
course_is bytes = over_is begin_trace (lines_of bytes)

abbrev stated : TraceCourse → Result Trace Fault
stated t = trace_stated t t.behind

-- the lines were read
pub file_read : (r : TraceReader) (c : Contents) (bytes : List ℕ) (result : Result Traced ReadError) → ReadsLines (StandsTrace r c) (over trace_step begin_trace (lines_of bytes)) (Ok tt)
    → ((t : TraceCourse) → StandsTrace r c t → ReadsTrace (stated t) result) → ReadsTrace (trace_of bytes) result
file_read r c bytes result h f =
    let is : trace_course bytes ≡ Ok h.0 = sym (course_is bytes) ∙ h.1 in
    rw is (f h.0 h.2)

-- or were not
pub file_told : (r : TraceReader) (c : Contents) (bytes : List ℕ) (e : ReadError) → ReadsLines (StandsTrace r c) (over trace_step begin_trace (lines_of bytes)) (Err e) → ReadsTrace (trace_of bytes) (Err e)
file_told r c bytes read_errors.NoMemory h = tt
file_told r c bytes read_errors.ReadFault h = tt
file_told r c bytes (read_errors.Fault f) h = ap (λ x. after x stated) (sym (course_is bytes) ∙ h)
