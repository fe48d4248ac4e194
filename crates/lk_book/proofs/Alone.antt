-- What a text states does not rest on how many bytes of the input stand before it, where it has no
-- fault.
use Rattle.std.proofs.Common.{◌≡◌, ℕ, ◌+◌, ◌≤◌, ◌^◌, Bool, true, false, List, [], ◌∷◌, length, Ok, Err, Some, None, nat_lt, refl, arith}
use Rattle.std.specs.Prelude.{All, IfOk, Result, if◌then◌else◌}
use Rattle.std.specs.declared.option.Option.{Option}
use Rattle.std.proofs.lemmas.Bool.Decides.{nat_tests}
use Rattle.std.proofs.lemmas.List.Elements.{All-nil, All-cons}
use Rattle.lk_rulebook.specs.Units.{Library}
use Rattle.lk_lines.specs.declared.words.Word.{Word}
use Rattle.lk_lines.specs.declared.words.Word.TheVariants.{LineTooLong, InputTooLong}
use Rattle.lk_lines.specs.declared.line.Fault.{Fault}
use Rattle.lk_lines.specs.Limits.{limits}
use Rattle.lk_lines.specs.Reading.{◌>>=◌}
use Rattle.lk_lines.specs.Says.{Says, Blank, Version, OfItem, said_in}
use Rattle.lk_units.specs.State.{State, take_item}
use Rattle.lk_book.specs.Course.{Course, feed_count, passed, taken, unless, at_line, step}
use Rattle.lk_book.specs.File.{lines_of, has_more, after, course_over, units_stated}
use Rattle.lk_book.specs.Texts.{begin_behind, text_course, text_of, Cut, cut_lines, ending_fault, ended, cut_stated, moved, texts_from, texts_of, IsFaultless}

abbrev at_front : ℕ → Course → Course
at_front b c = record c { before = b }

-- this comes to the course too, with no more bytes before it
abbrev ComesTo : Result Course Fault → Course → Type 0
ComesTo r d = (b : ℕ) × (b ≤ d.before) × (r ≡ Ok (at_front b d))

fewer_bytes : (b before n k : ℕ) → b ≤ before → nat_lt (2 ^ 40) (before + n + k) ≡ false → nat_lt (2 ^ 40) (b + n + k) ≡ false
fewer_bytes b before n k l e = grind (arith, nat_tests, l, e)

no_limit : (x y z : Bool) → (x ≡ false → y ≡ false) → (if x then Some InputTooLong else (if z then Some LineTooLong else None)) ≡ None → (if y then Some InputTooLong else (if z then Some LineTooLong else None)) ≡ None
no_limit true y z h e = absurd cc
no_limit false true z h e = let no : true ≡ false = h refl in absurd cc
no_limit false false z h e = e

fewer_limits : (b before n : ℕ) (feed : Bool) → b ≤ before → limits before n feed ≡ None → limits b n feed ≡ None
fewer_limits b before n feed l e =
    no_limit (nat_lt (2 ^ 40) (before + n + feed_count feed)) (nat_lt (2 ^ 40) (b + n + feed_count feed)) (nat_lt (2 ^ 24) n) (fewer_bytes b before n (feed_count feed) l) e

module _ (n : ℕ) (p : Course) (b : ℕ) (l : b ≤ p.before) where
  item_alone : (r : Result State Word) → IfOk (at_line n (r >>= λ s. Ok (record p { first = false; state = s }))) (ComesTo (at_line n (r >>= λ s. Ok (record (at_front b p) { first = false; state = s }))))
  item_alone (Ok s) = (b, l, refl)
  item_alone (Err w) = tt

  said_alone : (said : Result Says Word) → IfOk (at_line n (said >>= taken p)) (ComesTo (at_line n (said >>= taken (at_front b p))))
  said_alone (Err w) = tt
  said_alone (Ok Blank) = (b, l, refl)
  said_alone (Ok Version) = (b, l, refl)
  said_alone (Ok (OfItem item)) = item_alone (take_item p.number p.state item)

  line_alone : (o q : Option Word) (said : Result Says Word) → (o ≡ None → q ≡ None) → IfOk (at_line n (unless o (said >>= taken p))) (ComesTo (at_line n (unless q (said >>= taken (at_front b p)))))
  line_alone (Some w) q said h = tt
  line_alone None q said h = rw (h refl) (said_alone said)

step_alone : (c : Course) (feed : Bool) (line : List ℕ) (b : ℕ) → b ≤ c.before → IfOk (step c feed line) (ComesTo (step (at_front b c) feed line))
unfolding step
step_alone c feed line b l =
    line_alone (c.number + 1) (passed c (length line) feed) (b + length line + feed_count feed) (omega arith) (limits c.before (length line) feed) (limits b (length line) feed) (said_in c.dialect c.first line)
    (fewer_limits b c.before (length line) feed l)

over_alone : (c : Course) (lines : List (List ℕ)) (b : ℕ) → b ≤ c.before → IfOk (course_over c lines) (ComesTo (course_over (at_front b c) lines))
over_alone c [] b l = (b, l, refl)
over_alone c (line ∷ more) b l = go (step c (has_more more) line) (step (at_front b c) (has_more more) line) (step_alone c (has_more more) line b l) (λ d k h. over_alone d more k h)
  where
    go : (r q : Result Course Fault) → IfOk r (ComesTo q) → ((d : Course) (k : ℕ) → k ≤ d.before → IfOk (course_over d more) (ComesTo (course_over (at_front k d) more)))
        → IfOk (after r (λ d. course_over d more)) (ComesTo (after q (λ d. course_over d more)))
    go (Ok d) q h next = rw h.2 (next d h.0 h.1)
    go (Err f) q h next = tt

course_alone : (before : ℕ) (text : List ℕ) → IfOk (text_course before text) (ComesTo (text_course 0 text))
unfolding text_course
course_alone before text = over_alone (begin_behind before) (lines_of text) 0 (omega arith)

stated_alone : (before : ℕ) (c : Cut) (us : Library) → cut_stated before c ≡ Ok us → text_of c.bytes ≡ Ok us
stated_alone before c us e = go (text_course before c.bytes) (text_course 0 c.bytes) (course_alone before c.bytes) (ending_fault before c) e
  where
    go : (r q : Result Course Fault) → IfOk r (ComesTo q) → (o : Option Word) → after r (ended o c.bytes) ≡ Ok us → after q (λ d. units_stated d.state.lines) ≡ Ok us
    go (Ok d) q h None e = rw h.2 e
    go (Ok d) q h (Some w) e = absurd cc
    go (Err f) q h o e = absurd cc

texts_alone : (n before : ℕ) (cs : List Cut) → IfOk (texts_from n before cs) (All IsFaultless)
texts_alone n before [] = All-nil IsFaultless
texts_alone n before (c ∷ cs) =
    go (cut_stated before c) (λ us e. (us, stated_alone before c us e)) (texts_from (n + length (lines_of c.bytes)) (before + length c.bytes + c.ending) cs) (texts_alone (n + length (lines_of c.bytes)) (before + length c.bytes + c.ending) cs)
  where
    go : (r : Result Library Fault) → ((us : Library) → r ≡ Ok us → IsFaultless c.bytes) → (q : Result (List (List ℕ)) Fault) → IfOk q (All IsFaultless)
        → IfOk (after (moved n r) (λ us. after q (λ ts. Ok (c.bytes ∷ ts)))) (All IsFaultless)
    go (Ok us) h (Ok ts) k = All-cons IsFaultless c.bytes ts (h us refl) k
    go (Ok us) h (Err f) k = tt
    go (Err f) h q k = tt

if_ok : {A : Type 0} (P : A → Type 0) (r : Result A Fault) (x : A) → IfOk r P → r ≡ Ok x → P x
if_ok P r x h e = rw e at h

pub texts_faultless : (bytes : List ℕ) (texts : List (List ℕ)) → texts_of bytes ≡ Ok texts → All IsFaultless texts
unfolding texts_of
texts_faultless bytes texts e = if_ok (All IsFaultless) (texts_from 0 0 (cut_lines (lines_of bytes))) texts (texts_alone 0 0 (cut_lines (lines_of bytes))) e
