-- No name that a file states holds a line feed.
use Rattle.std.proofs.Common.{◌≡◌, ◌≢◌, ℕ, ◌==◌, Bool, true, false, List, [], ◌∷◌, ◌++◌, length, Ok, Err, Some, None, refl, cond, arith}
use Rattle.std.specs.Prelude.{IfOk}
use Rattle.std.specs.declared.option.Option.{Option}
use Rattle.std.specs.Prelude.{Result}
use Rattle.std.specs.List.{slice_split, onto_first}
use Rattle.std.proofs.lemmas.Bool.Decides.{nat_tests}
use Rattle.std.proofs.lemmas.List.Elements.{All-nil, All-cons}
use Rattle.lk_token.specs.Lines.{HasNoLineFeed}
use Rattle.lk_lines.specs.declared.words.Word.{Word}
use Rattle.lk_lines.specs.declared.line.Fault.{Fault}
use Rattle.lk_lines.specs.Limits.{limits}
use Rattle.lk_lines.specs.Reading.{◌>>=◌}
use Rattle.lk_lines.specs.Says.{Says, Blank, Version, OfItem, said_in}
use Rattle.lk_lines.specs.declared.tags.Dialect.{Dialect}
use Rattle.lk_lines.specs.declared.tags.Dialect.TheVariants as dialects
use Rattle.lk_rulebook.specs.Units.{Library}
use Rattle.lk_tree.specs.Mentions.{same_name}
use Rattle.lk_members.specs.Faults.{first_open}
use Rattle.lk_members.specs.Plain.{PlainLine}
use Rattle.lk_units.proofs.Spellings.{Each, AreSpelledLines, AreSpelledParts, AreSpelledUnits}
use Rattle.lk_units.proofs.SpelledUnits.{spelled_units}
use Rattle.lk_units.specs.State.{State, take_item}
use Rattle.lk_units.proofs.Kept.{IsSpelledState, kept_item, kept_begin, spelled_parts}
use Rattle.lk_units.proofs.Items.{spelled_item}
use Rattle.lk_book.specs.Course.{Course, begin_in, passed, taken, unless, at_line, step}
use Rattle.lk_book.specs.Texts.{begin_behind, text_course, text_of}
use Rattle.lk_book.specs.File.{lines_of, Export, has_more, after, course_over, course_in, course_of, closed, units_stated, export_stated, export_of, parts_stated, rounds_stated, rounds_of}

other_byte : (b : ℕ) → (b == 10) ≡ false → b ≢ 10
other_byte b h = grind (arith, nat_tests, h)

-- no line has a line feed
abbrev AreCut : List (List ℕ) → Type 0
AreCut [] = Unit {0}
AreCut (line ∷ lines) = HasNoLineFeed line × AreCut lines

cut_onto : (b : ℕ) (lines : List (List ℕ)) → b ≢ 10 → AreCut lines → AreCut (onto_first b lines)
cut_onto b [] h c = (All-cons (λ x. x ≢ 10) b [] h (All-nil (λ x. x ≢ 10)), tt)
cut_onto b (line ∷ lines) h c = (All-cons (λ x. x ≢ 10) b line h c.0, c.1)

cut_step : (b : ℕ) (lines : List (List ℕ)) (feed : Bool) → (b == 10) ≡ feed → AreCut lines → AreCut (cond feed ([] ∷ lines) (onto_first b lines))
cut_step b lines true e c = (All-nil (λ x. x ≢ 10), c)
cut_step b lines false e c = cut_onto b lines (other_byte b e) c

are_cut : (bytes : List ℕ) → AreCut (lines_of bytes)
unfolding lines_of
are_cut [] = (All-nil (λ x. x ≢ 10), tt)
are_cut (b ∷ bytes) = cut_step b (slice_split (λ x. x == 10) bytes) (b == 10) refl (are_cut bytes)

abbrev KeptCourse : Course → Type 0
KeptCourse c = IsSpelledState c.state

kept_at : (n : ℕ) (r : Result Course Word) → IfOk r KeptCourse → IfOk (at_line n r) KeptCourse
kept_at n (Ok c) h = h
kept_at n (Err w) h = tt

kept_unless : (o : Option Word) (r : Result Course Word) → IfOk r KeptCourse → IfOk (unless o r) KeptCourse
kept_unless (Some w) r h = tt
kept_unless None r h = h

kept_state : (c : Course) (r : Result State Word) → IfOk r IsSpelledState → IfOk (r >>= λ s. Ok (record c { first = false; state = s })) KeptCourse
kept_state c (Ok s) h = h
kept_state c (Err w) h = tt

kept_taken : (c : Course) (dialect : Dialect) (first : Bool) (line : List ℕ) (says : Says) → HasNoLineFeed line → said_in dialect first line ≡ Ok says → IsSpelledState c.state → IfOk (taken c says) KeptCourse
kept_taken c dialect first line Blank h e k = k
kept_taken c dialect first line Version h e k = k
kept_taken c dialect first line (OfItem item) h e k = kept_state c (take_item c.number c.state item) (kept_item c.number c.state item (spelled_item dialect first line item h e) k)

kept_said : (c : Course) (dialect : Dialect) (first : Bool) (line : List ℕ) (said : Result Says Word) → HasNoLineFeed line → said_in dialect first line ≡ said → IsSpelledState c.state → IfOk (said >>= taken c) KeptCourse
kept_said c dialect first line (Ok says) h e k = kept_taken c dialect first line says h e k
kept_said c dialect first line (Err w) h e k = tt

kept_step : (c : Course) (feed : Bool) (line : List ℕ) → HasNoLineFeed line → IsSpelledState c.state → IfOk (step c feed line) KeptCourse
unfolding step
kept_step c feed line h k =
    let p = passed c (length line) feed in
    let said = said_in c.dialect c.first line in
    kept_at _ _ (kept_unless (limits c.before (length line) feed) (said >>= taken p) (kept_said p c.dialect c.first line said h refl k))

-- what follows something that has P
if_after : {A B : Type 0} (P : A → Type 0) (Q : B → Type 0) (r : Result A Fault) (f : A → Result B Fault) → IfOk r P → ((x : A) → P x → IfOk (f x) Q) → IfOk (after r f) Q
if_after P Q (Ok x) f h g = g x h
if_after P Q (Err e) f h g = tt

kept_over : (c : Course) (lines : List (List ℕ)) → AreCut lines → IsSpelledState c.state → IfOk (course_over c lines) KeptCourse
kept_over c [] h k = k
kept_over c (line ∷ lines) h k = if_after KeptCourse KeptCourse (step c (has_more lines) line) (λ d. course_over d lines) (kept_step c (has_more lines) line h.0 k) (λ d j. kept_over d lines h.1 j)

kept_course : (dialect : Dialect) (bytes : List ℕ) → IfOk (course_in dialect bytes) KeptCourse
unfolding course_in
kept_course dialect bytes = kept_over (begin_in dialect) (lines_of bytes) (are_cut bytes) kept_begin

kept_closed : (o : Option ℕ) (lines : List PlainLine) → AreSpelledLines lines → IfOk (closed o lines) AreSpelledUnits
kept_closed None lines k = spelled_units lines k
kept_closed (Some n) lines k = tt

kept_units : (lines : List PlainLine) → AreSpelledLines lines → IfOk (units_stated lines) AreSpelledUnits
kept_units lines k = kept_closed (first_open same_name lines lines) lines k

abbrev IsSpelledExport : Export → Type 0
IsSpelledExport e = AreSpelledUnits e.units

kept_export : (s : State) → IsSpelledState s → IfOk (export_stated s) IsSpelledExport
kept_export s k = if_after AreSpelledUnits IsSpelledExport (units_stated s.lines) (λ us. Ok (record { units = us; budgets = s.budgets })) (kept_units s.lines k.lines) (λ us j. j)

abbrev AreSpelledRounds : List Library → Type 0
AreSpelledRounds parts = Each AreSpelledUnits parts

kept_parts : (parts : List (List PlainLine)) → AreSpelledParts parts → IfOk (parts_stated parts) AreSpelledRounds
kept_parts [] h = tt
kept_parts (lines ∷ parts) h =
    if_after AreSpelledUnits AreSpelledRounds (units_stated lines) (λ us. after (parts_stated parts) (λ vs. Ok (us ∷ vs))) (kept_units lines h.0)
    (λ us j. if_after AreSpelledRounds AreSpelledRounds (parts_stated parts) (λ vs. Ok (us ∷ vs)) (kept_parts parts h.1) (λ vs i. (j, i)))

if_ok : {A : Type 0} (P : A → Type 0) (r : Result A Fault) (x : A) → IfOk r P → r ≡ Ok x → P x
if_ok P r x h e = rw e at h

-- what a file states
pub export_kept : (bytes : List ℕ) (e : Export) → export_of bytes ≡ Ok e → AreSpelledUnits e.units
export_kept bytes e q =
    if_ok IsSpelledExport (export_of bytes) e (if_after KeptCourse IsSpelledExport (course_of bytes) (λ c. export_stated c.state) (kept_course dialects.Export bytes) (λ c k. kept_export c.state k)) q

-- what each part of a file states
pub rounds_kept : (bytes : List ℕ) (parts : List Library) → rounds_of bytes ≡ Ok parts → Each AreSpelledUnits parts
rounds_kept bytes parts q =
    if_ok AreSpelledRounds (rounds_of bytes) parts
    (if_after KeptCourse AreSpelledRounds (course_in dialects.Rounds bytes) (λ c. rounds_stated c.state) (kept_course dialects.Rounds bytes) (λ c k. kept_parts (c.state.parts ++ c.state.lines ∷ []) (spelled_parts c.state k))) q

kept_text_course : (bytes : List ℕ) → IfOk (text_course 0 bytes) KeptCourse
unfolding text_course
kept_text_course bytes = kept_over (begin_behind 0) (lines_of bytes) (are_cut bytes) kept_begin

-- what a text states
pub text_kept : (bytes : List ℕ) (us : Library) → text_of bytes ≡ Ok us → AreSpelledUnits us
text_kept bytes us q =
    if_ok AreSpelledUnits (text_of bytes) us (if_after KeptCourse AreSpelledUnits (text_course 0 bytes) (λ c. units_stated c.state.lines) (kept_text_course bytes) (λ c k. kept_units c.state.lines k.lines)) q
