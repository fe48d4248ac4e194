-- No name of a library that a file with derivations states holds a line feed.
use Rattle.std.proofs.Common.{◌≡◌, ◌≢◌, ℕ, ◌==◌, Bool, true, false, List, [], ◌∷◌, length, Ok, Err, Some, None, refl, sym, subst, cond, arith, ◌+◌}
use Rattle.std.specs.Prelude.{IfOk, Result}
use Rattle.std.specs.declared.option.Option.{Option}
use Rattle.std.specs.List.{slice_split, onto_first}
use Rattle.std.proofs.lemmas.Bool.Decides.{nat_tests}
use Rattle.std.proofs.lemmas.List.Elements.{All-nil, All-cons}
use Rattle.lk_tree.specs.Mentions.{same_name}
use Rattle.lk_rulebook.specs.Spelled.{library_spelled}
use Rattle.lk_token.specs.Lines.{HasNoLineFeed}
use Rattle.lk_lines.specs.declared.words.Word.{Word}
use Rattle.lk_lines.specs.declared.line.Fault.{Fault}
use Rattle.lk_lines.specs.declared.tags.Tag.{Tag}
use Rattle.lk_lines.specs.declared.tags.Tag.TheVariants as tag
use Rattle.lk_lines.specs.declared.tags.Dialect.TheVariants as dialects
use Rattle.lk_lines.specs.Limits.{limits}
use Rattle.lk_lines.specs.Reading.{◌>>=◌}
use Rattle.lk_lines.specs.Items.{Item}
use Rattle.lk_lines.specs.Says.{Says, Blank, Version, OfItem, said_in, said_behind_trace}
use Rattle.lk_lines.specs.Values.{Value}
use Rattle.lk_lines.specs.Values as value
use Rattle.lk_members.specs.Faults.{first_open}
use Rattle.lk_members.specs.Plain.{PlainLine}
use Rattle.lk_units.proofs.Items.{spelled_item}
use Rattle.lk_units.proofs.Kept.{IsSpelledState, kept_begin, kept_item}
use Rattle.lk_units.proofs.SpelledUnits.{spelled_units}
use Rattle.lk_units.proofs.Spellings.{AreSpelledLines, AreSpelledUnits, AreSpelledValues, IsSpelledItem}
use Rattle.lk_units.specs.State.{State, all_known, counted, with_tree}
use Rattle.lk_book.proofs.Spelled.{spelled}
use Rattle.lk_book.specs.Course.{Course, at_line, passed}
use Rattle.lk_book.specs.File.{after, closed, export_stated, has_more, lines_of, units_stated, Export}
use Rattle.lk_traced.proofs.Keeping.{StatesBoth, behind_kept}
use Rattle.lk_traced.specs.Course.{TraceCourse, begin_trace, item_before, taken_before, taken_behind, taken_line, trace_begun, trace_step}
use Rattle.lk_traced.specs.Derived.{line_said}
use Rattle.lk_traced.specs.Placed.{before_taken, begin_behind, behind_taken, local_tree, misplaced, Behind, Both, OpenSection}
use Rattle.lk_traced.specs.Trace.{Trace, trace_behind, trace_course, trace_of, trace_over, trace_stated}

other_byte : (b : ℕ) → (b == 10) ≡ false → b ≢ 10
other_byte b h = grind (arith, nat_tests, h)

-- no line has a line feed
abbrev AreCut : List (List ℕ) → Type 0
AreCut [] = Unit {0}
AreCut (line ∷ lines) = HasNoLineFeed line × AreCut lines

cut_onto : (b : ℕ) (lines : List (List ℕ)) → b ≢ 10 → AreCut lines → AreCut (onto_first b lines)
cut_onto b [] h c = (All-cons (λ x. x ≢ 10) b [] h (All-nil (λ x. x ≢ 10)), tt)
cut_onto b (line ∷ lines) h c = (All-cons (λ x. x ≢ 10) b line h c.0, c.1)

cut_step : (b : ℕ) (lines : List (List ℕ)) (feed : Bool) → (b == 10) ≡ feed → AreCut lines → AreCut (cond feed ([] ∷ lines) (onto_first b lines))
cut_step b lines true e c = (All-nil (λ x. x ≢ 10), c)
cut_step b lines false e c = cut_onto b lines (other_byte b e) c

are_cut : (bytes : List ℕ) → AreCut (lines_of bytes)
unfolding lines_of
are_cut [] = (All-nil (λ x. x ≢ 10), tt)
are_cut (b ∷ bytes) = cut_step b (slice_split (λ x. x == 10) bytes) (b == 10) refl (are_cut bytes)

-- what follows something that has P
if_after : {A B : Type 0} (P : A → Type 0) (Q : B → Type 0) (r : Result A Fault) (f : A → Result B Fault) → IfOk r P → ((x : A) → P x → IfOk (f x) Q) → IfOk (after r f) Q
if_after P Q (Ok x) f h g = g x h
if_after P Q (Err e) f h g = tt

kept_at : {A : Type 0} (P : A → Type 0) (n : ℕ) (r : Result A Word) → IfOk r P → IfOk (at_line n r) P
kept_at P n (Ok x) h = h
kept_at P n (Err w) h = tt

-- what is misplaced states nothing
none_kept : {A B : Type 0} (P : B → Type 0) (said : Result A Word) → IfOk (misplaced {B = B} said) P
none_kept P (Ok x) = tt
none_kept P (Err w) = tt

abbrev IsSpelledExport : Export → Type 0
IsSpelledExport e = AreSpelledUnits e.units

kept_closed : (o : Option ℕ) (lines : List PlainLine) → AreSpelledLines lines → IfOk (closed o lines) AreSpelledUnits
kept_closed None lines k = spelled_units lines k
kept_closed (Some n) lines k = tt

kept_export : (s : State) → IsSpelledState s → IfOk (export_stated s) IsSpelledExport
kept_export s k =
    if_after AreSpelledUnits IsSpelledExport (units_stated s.lines) (λ us. Ok (record { units = us; budgets = s.budgets }))
    (kept_closed (first_open same_name s.lines s.lines) s.lines k.lines) (λ us j. j)

-- before `#TR` what the lines state, and behind it what those before it state
abbrev Kept : State → Option Behind → Type 0
Kept s None = IsSpelledState s
Kept s (Some b) = IsSpelledExport b.export

abbrev KeptTrace : TraceCourse → Type 0
KeptTrace t = Kept t.course.state t.behind

kept_before : (l : ℕ) (s : State) (own : Option ℕ) (t : Tag) (values : List Value) → AreSpelledValues t values → IsSpelledState s → IfOk (before_taken l s own t values) IsSpelledState
kept_before l s (Some own) tag.Local (value.Number k ∷ value.Number t ∷ []) i h = none_kept IsSpelledState (with_tree s own (local_tree s k t) >>= λ u. counted u)
kept_before l s (Some own) (tag.Derivation f) values i h = none_kept IsSpelledState (line_said s (λ j. None) values)
kept_before l s None tag.Section (value.Number u ∷ []) i h = tt
kept_before l s None tag.Parts (value.Numbers ps ∷ []) i h = none_kept IsSpelledState (all_known {X = ℕ} (λ j. None) ps)
kept_before l s own t values i h = kept_item l s (record { own = own; tag = t; values = values }) i h

kept_state : (c : Course) (r : Result State Word) → IfOk r IsSpelledState → IfOk (r >>= λ s. Ok (record { course = record c { first = false; state = s }; behind = None })) KeptTrace
kept_state c (Ok s) h = h
kept_state c (Err w) h = tt

kept_begun : (c : Course) → IsSpelledState c.state → IfOk (trace_begun c) KeptTrace
kept_begun c k =
    if_after IsSpelledExport KeptTrace (export_stated c.state) (λ e. Ok (record { course = record c { first = false }; behind = Some (begin_behind e) })) (kept_export c.state k) (λ e j. j)

kept_taken : (c : Course) (item : Item) → IsSpelledItem item → IsSpelledState c.state → IfOk (taken_before c (OfItem item)) KeptTrace
kept_taken c item i k = go item.tag
  where
    other : IfOk (item_before c item) KeptTrace
    other =
        let said = before_taken c.number c.state item.own item.tag item.values in
        kept_at KeptTrace c.number (said >>= λ s. Ok (record { course = record c { first = false; state = s }; behind = None }))
        (kept_state c said (kept_before c.number c.state item.own item.tag item.values i k))

    go : (t : Tag) → IfOk (elim t as (λ x. Result TraceCourse Fault) [ tag.Trace ↦ trace_begun c | _ ↦ item_before c item ]) KeptTrace
    go tag.Trace = kept_begun c k
    go t = other

line_before : (c : Course) (line : List ℕ) → HasNoLineFeed line → IsSpelledState c.state → IfOk (taken_line c None line) KeptTrace
line_before c line h k = go (said_in dialects.Trace c.first line) refl
  where
    go : (said : Result Says Word) → said_in dialects.Trace c.first line ≡ said → IfOk (after (at_line c.number said) (taken_before c)) KeptTrace
    go (Ok Blank) e = k
    go (Ok Version) e = k
    go (Ok (OfItem item)) e = kept_taken c item (spelled_item dialects.Trace c.first line item h e) k
    go (Err w) e = tt

module _ (c : Course) (b : Behind) (k : IsSpelledExport b.export) where
  kept_both : (r : Result Both Word) → IfOk r (StatesBoth c.state b) → IfOk (r >>= λ x. Ok (record { course = record c { state = x.state }; behind = Some x.behind })) KeptTrace
  kept_both (Ok x) h = subst IsSpelledExport (sym h.export) k
  kept_both (Err w) h = tt

  line_behind : (line : List ℕ) → IfOk (taken_line c (Some b) line) KeptTrace
  line_behind line = go (said_behind_trace line)
    where
      go : (said : Result Says Word) → IfOk (after (at_line c.number said) (taken_behind c b)) KeptTrace
      go (Ok Blank) = k
      go (Ok Version) = k
      go (Ok (OfItem item)) =
          let said = behind_taken c.number c.state b item.own item.tag item.values in
          kept_at KeptTrace c.number (said >>= λ x. Ok (record { course = record c { state = x.state }; behind = Some x.behind }))
          (kept_both said (behind_kept c.number c.state b item.own item.tag item.values))
      go (Err w) = tt

kept_line : (c : Course) (b : Option Behind) (line : List ℕ) → HasNoLineFeed line → Kept c.state b → IfOk (taken_line c b line) KeptTrace
kept_line c None line h k = line_before c line h k
kept_line c (Some b) line h k = line_behind c b k line

kept_step : (t : TraceCourse) (feed : Bool) (line : List ℕ) → HasNoLineFeed line → KeptTrace t → IfOk (trace_step t feed line) KeptTrace
unfolding trace_step
kept_step t feed line h k = go (limits t.course.before (length line) feed)
  where
    go : (o : Option Word) → IfOk (elim o as (λ x. Result TraceCourse Fault) [ Some w ↦ Err (record { line = t.course.number + 1; word = w }) | None ↦ taken_line (passed t.course (length line) feed) t.behind line ]) KeptTrace
    go (Some w) = tt
    go None = kept_line (passed t.course (length line) feed) t.behind line h k

kept_over : (t : TraceCourse) (lines : List (List ℕ)) → AreCut lines → KeptTrace t → IfOk (trace_over t lines) KeptTrace
kept_over t [] h k = k
kept_over t (line ∷ lines) h k = if_after KeptTrace KeptTrace (trace_step t (has_more lines) line) (λ u. trace_over u lines) (kept_step t (has_more lines) line h.0 k) (λ u j. kept_over u lines h.1 j)

kept_course : (bytes : List ℕ) → IfOk (trace_course bytes) KeptTrace
unfolding trace_course
kept_course bytes = kept_over begin_trace (lines_of bytes) (are_cut bytes) kept_begin

abbrev IsSpelledTrace : Trace → Type 0
IsSpelledTrace t = IsSpelledExport t.export

kept_stated : (t : TraceCourse) (b : Option Behind) → Kept t.course.state b → IfOk (trace_stated t b) IsSpelledTrace
kept_stated t None k = if_after IsSpelledExport IsSpelledTrace (export_stated t.course.state) (λ e. Ok (record { export = e; sections = [] })) (kept_export t.course.state k) (λ e j. j)
kept_stated t (Some b) k = go b.begun
  where
    go : (o : Option OpenSection) → IfOk (trace_behind b o) IsSpelledTrace
    go None = k
    go (Some o) = tt

if_ok : (r : Result Trace Fault) (t : Trace) → IfOk r IsSpelledTrace → r ≡ Ok t → IsSpelledTrace t
if_ok r t h e = rw e at h

pub trace_spelled : (bytes : List ℕ) (t : Trace) → trace_of bytes ≡ Ok t → library_spelled t.export.units ≡ true
trace_spelled bytes t q =
    spelled t.export.units
    (if_ok (trace_of bytes) t (if_after KeptTrace IsSpelledTrace (trace_course bytes) (λ u. trace_stated u u.behind) (kept_course bytes) (λ u k. kept_stated u u.behind k)) q)
