-- A course over the lines of a file keeps that all can be stated.
use Rattle.std.proofs.Common.{◌≡◌, ◌≢◌, ℕ, ◌==◌, Bool, true, false, List, [], ◌∷◌, length, Ok, Err}
use Rattle.std.proofs.Common.{Some, None, refl, cond, arith}
use Rattle.std.specs.Prelude.{IfOk, Result}
use Rattle.std.specs.declared.option.Option.{Option}
use Rattle.std.specs.List.{slice_split, onto_first}
use Rattle.std.proofs.lemmas.Bool.Decides.{nat_tests}
use Rattle.std.proofs.lemmas.List.Elements.{All-nil, All-cons}
use Rattle.lk_token.specs.Lines.{HasNoLineFeed}
use Rattle.lk_lines.specs.declared.words.Word.{Word}
use Rattle.lk_lines.specs.declared.line.Fault.{Fault}
use Rattle.lk_lines.specs.Limits.{limits}
use Rattle.lk_lines.specs.Reading.{◌>>=◌}
use Rattle.lk_lines.specs.declared.tags.Dialect.{Dialect}
use Rattle.lk_lines.specs.declared.tags.Dialect.TheVariants as dialects
use Rattle.lk_lines.specs.Says.{Says, Blank, Version, OfItem, said_in}
use Rattle.lk_units.specs.State.{State, take_item}
use Rattle.lk_book.specs.Course.{Course, begin_in, passed, taken, unless, at_line, step}
use Rattle.lk_book.specs.File.{lines_of, has_more, after, course_over, course_in, course_of}
use Rattle.lk_readback.proofs.SmallItems.{small_item}
use Rattle.lk_readback.proofs.SmallStates.{IsSmallState, kept_item, kept_begin}

other_byte : (b : ℕ) → (b == 10) ≡ false → b ≢ 10
other_byte b h = grind (arith, nat_tests, h)

-- no line has a line feed
abbrev AreCut : List (List ℕ) → Type 0
AreCut [] = Unit {0}
AreCut (line ∷ lines) = HasNoLineFeed line × AreCut lines

cut_onto : (b : ℕ) (lines : List (List ℕ)) → b ≢ 10 → AreCut lines → AreCut (onto_first b lines)
cut_onto b [] h c = (All-cons (λ x. x ≢ 10) b [] h (All-nil (λ x. x ≢ 10)), tt)
cut_onto b (line ∷ lines) h c = (All-cons (λ x. x ≢ 10) b line h c.0, c.1)

cut_step : (b : ℕ) (lines : List (List ℕ)) (feed : Bool) → (b == 10) ≡ feed → AreCut lines
    → AreCut (cond feed ([] ∷ lines) (onto_first b lines))
cut_step b lines true e c = (All-nil (λ x. x ≢ 10), c)
cut_step b lines false e c = cut_onto b lines (other_byte b e) c

are_cut : (bytes : List ℕ) → AreCut (lines_of bytes)
unfolding lines_of
are_cut [] = (All-nil (λ x. x ≢ 10), tt)
are_cut (b ∷ bytes) =
    cut_step b (slice_split (λ x. x == 10) bytes) (b == 10) refl (are_cut bytes)

abbrev pub IsSmallCourse : Course → Type 0
IsSmallCourse c = IsSmallState c.state

kept_at : (n : ℕ) (r : Result Course Word) → IfOk r IsSmallCourse
    → IfOk (at_line n r) IsSmallCourse
kept_at n (Ok c) h = h
kept_at n (Err w) h = tt

kept_unless : (o : Option Word) (r : Result Course Word) → IfOk r IsSmallCourse
    → IfOk (unless o r) IsSmallCourse
kept_unless (Some w) r h = tt
kept_unless None r h = h

kept_state : (c : Course) (r : Result State Word) → IfOk r IsSmallState
    → IfOk (r >>= λ s. Ok (record c { first = false; state = s })) IsSmallCourse
kept_state c (Ok s) h = h
kept_state c (Err w) h = tt

kept_taken : (c : Course) (d : Dialect) (first : Bool) (line : List ℕ) (says : Says)
    → HasNoLineFeed line → said_in d first line ≡ Ok says → IsSmallState c.state
    → IfOk (taken c says) IsSmallCourse
kept_taken c d first line Blank h e k = k
kept_taken c d first line Version h e k = k
kept_taken c d first line (OfItem item) h e k =
    kept_state c (take_item c.number c.state item)
    (kept_item c.number c.state item (small_item d first line item h e) k)

kept_said : (c : Course) (d : Dialect) (first : Bool) (line : List ℕ) (said : Result Says Word)
    → HasNoLineFeed line → said_in d first line ≡ said → IsSmallState c.state
    → IfOk (said >>= taken c) IsSmallCourse
kept_said c d first line (Ok says) h e k = kept_taken c d first line says h e k
kept_said c d first line (Err w) h e k = tt

kept_step : (c : Course) (feed : Bool) (line : List ℕ) → HasNoLineFeed line → IsSmallState c.state
    → IfOk (step c feed line) IsSmallCourse
unfolding step
kept_step c feed line h k =
    let p = passed c (length line) feed in
    kept_at _ _ (kept_unless (limits c.before (length line) feed)
    (said_in c.dialect c.first line >>= taken p)
    (kept_said p c.dialect c.first line (said_in c.dialect c.first line) h refl k))

kept_after : (r : Result Course Fault) (f : Course → Result Course Fault) → IfOk r IsSmallCourse
    → ((d : Course) → IsSmallState d.state → IfOk (f d) IsSmallCourse)
    → IfOk (after r f) IsSmallCourse
kept_after (Ok d) f h g = g d h
kept_after (Err e) f h g = tt

kept_over : (c : Course) (lines : List (List ℕ)) → AreCut lines → IsSmallState c.state
    → IfOk (course_over c lines) IsSmallCourse
kept_over c [] h k = k
kept_over c (line ∷ lines) h k =
    kept_after (step c (has_more lines) line) (λ d. course_over d lines)
    (kept_step c (has_more lines) line h.0 k) (λ d j. kept_over d lines h.1 j)

kept_course : (d : Dialect) (bytes : List ℕ) → IfOk (course_in d bytes) IsSmallCourse
unfolding course_in
kept_course d bytes = kept_over (begin_in d) (lines_of bytes) (are_cut bytes) kept_begin

-- what a file that is read without a fault comes to
pub small_course : (bytes : List ℕ) (c : Course) → course_of bytes ≡ Ok c → IsSmallState c.state
small_course bytes c read = rw read at (kept_course dialects.Export bytes)
