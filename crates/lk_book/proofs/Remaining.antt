-- What is left of a source leads where the whole file does.
use Rattle.std.proofs.Common.{◌≡◌, ℕ, ◌+◌, List, [], ◌∷◌, ◌++◌, length, Ok, Err, Some, refl, ◌∙◌, ap, append_assoc, subst}
use Rattle.std.specs.Prelude.{Result, Bool, false}
use Rattle.std.specs.declared.option.Option.{Option}
use Rattle.std.specs.Io.KnownBytes.{Consumes, IsAtEnd}
use Rattle.lk_port.proofs.BytesLemmas.{Consumes-none, Consumes-append}
use Rattle.lk_token.specs.Lines.{HasNoLineFeed}
use Rattle.lk_lines.specs.Limits.{limits}
use Rattle.lk_lines.specs.declared.words.Word.{Word}
use Rattle.lk_lines.specs.declared.line.Fault.{Fault}
use Rattle.lk_lines.specs.declared.line.LineError.{LineError}
use Rattle.lk_lines.specs.declared.line.LineError.TheVariants as errors
use Rattle.std.proofs.lemmas.List.{append-nil}
use Rattle.lk_book.specs.declared.error.ReadError.{ReadError}
use Rattle.lk_book.specs.declared.error.ReadError.TheVariants as reads
use Rattle.lk_book.specs.File.{lines_of, has_more, after}
use Rattle.lk_book.specs.Courses.{Step, over, Goes, Fails, Leading, Passes, Stops, Remains, TellsFault, ReadsLines}
use Rattle.lk_book.specs.Reading.{read_error, first_limits, ConsumesSome}
use Rattle.lk_book.proofs.FirstLines.{lines_of-last}
use Rattle.lk_book.proofs.LongLines.{known_left, all_read}

pub front_more : (old now new : Option (List ℕ)) (piece : List ℕ) → Consumes old now piece → ConsumesSome now new → ConsumesSome old new
front_more old now new piece h s = (piece ++ s.0, Consumes-append old now new piece s.0 h s.1)

pub front_then : (old now new : Option (List ℕ)) → ConsumesSome old now → ConsumesSome now new → ConsumesSome old new
front_then old now new h s = front_more old now new h.0 h.1 s

module _ {C : Type 0} (step : Step C) where
  leads_more : (c d : C) (bytes held piece : List ℕ) → Leading step c bytes d held → Leading step c (bytes ++ piece) d (held ++ piece)
  leads_more c d bytes held piece h rest = rw (append_assoc bytes piece rest, append_assoc held piece rest) (h (piece ++ rest))

  pub remains_more : (Stands New : C → Type 0) (c : C) (held held2 piece : List ℕ) (old now new : Option (List ℕ)) (m : Remains step Stands c held old now) → Consumes now new piece
      → Passes step New m.passes.course (held ++ piece) held2 → Remains step New c held2 old new
  remains_more Stands New c held held2 piece old now new m read p = record {
    bytes = m.bytes ++ piece;
    consumed = Consumes-append old now new m.bytes piece m.consumed read;
    passes = record {
      course = p.course;
      stands = p.stands;
      leads = λ rest. leads_more c m.passes.course m.bytes held piece m.passes.leads rest ∙ p.leads rest;
    };
  }

  fault_after : (c d : C) (bytes held rest : List ℕ) (f : Fault) → Leading step c bytes d held → over step d (lines_of (held ++ rest)) ≡ Err f → over step c (lines_of (bytes ++ rest)) ≡ Err f
  fault_after c d bytes held rest f h e = h rest ∙ e

  -- a line of these bytes has a fault
  pub tells_stop : (Stands : C → Type 0) (c : C) (held piece : List ℕ) (old now new : Option (List ℕ)) (e : LineError) (m : Remains step Stands c held old now) → Consumes now new piece
      → Stops step e m.passes.course (held ++ piece) → TellsFault step c (read_error e) old
  tells_stop Stands c held piece old now new errors.NoMemory m read s = tt
  tells_stop Stands c held piece old now new (errors.Fault f) m read s = λ bytes is.
      let k = known_left old new (m.bytes ++ piece) bytes (Consumes-append old now new m.bytes piece m.consumed read) is in
      rw k.2 (fault_after c m.passes.course (m.bytes ++ piece) (held ++ piece) k.0 f (leads_more c m.passes.course m.bytes held piece m.passes.leads) (s k.0))

  -- a course at which lines beyond the limits have just that fault
  abbrev pub IsLimited : C → ℕ → ℕ → Type 0
  IsLimited c number before = (feed : Bool) (line : List ℕ) (w : Word) → limits before (length line) feed ≡ Some w → step c feed line ≡ Err (record { line = number + 1; word = w })

  limits_stop : (c : C) (number before : ℕ) (lines : List (List ℕ)) (w : Word) → IsLimited c number before → first_limits before lines ≡ Some w → over step c lines ≡ Err (record { line = number + 1; word = w })
  limits_stop c number before [] w h e = absurd (cc)
  limits_stop c number before (line ∷ more) w h e = ap (λ said. after said (λ d. over step d more)) (h (has_more more) line w e)

  -- the line that is read is too long
  pub tells_long : (Stands : C → Type 0) (c : C) (number before : ℕ) (held : List ℕ) (old now : Option (List ℕ)) (w : Word) (m : Remains step Stands c held old now) → IsLimited m.passes.course number before
      → ((rest : List ℕ) → now ≡ Some rest → first_limits before (lines_of (held ++ rest)) ≡ Some w) → (bytes : List ℕ) → old ≡ Some bytes → over step c (lines_of bytes) ≡ Err (record { line = number + 1; word = w })
  tells_long Stands c number before held old now w m limited h bytes is =
      let k = known_left old now m.bytes bytes m.consumed is in
      let stop = limits_stop m.passes.course number before (lines_of (held ++ k.0)) w limited (h k.0 k.1) in
      rw k.2 (fault_after c m.passes.course m.bytes held k.0 _ m.passes.leads stop)

  -- nothing was read
  pub remains_begin : (Stands : C → Type 0) (c : C) (held : List ℕ) (old : Option (List ℕ)) → held ≡ [] → Stands c → Remains step Stands c held old old
  remains_begin Stands c held old e h = record {
    bytes = [];
    consumed = Consumes-none old;
    passes = record { course = c; stands = h; leads = λ rest. rw e refl };
  }

  pub told_reads : (Stands : C → Type 0) (c : C) (e : ReadError) (old : Option (List ℕ)) (bytes : List ℕ) → TellsFault step c e old → old ≡ Some bytes → ReadsLines Stands (over step c (lines_of bytes)) (Err e)
  told_reads Stands c reads.NoMemory old bytes h is = tt
  told_reads Stands c reads.ReadFault old bytes h is = tt
  told_reads Stands c (reads.Fault f) old bytes h is = h bytes is

  after_last : (said : Result C Fault) → after said (λ d. Ok d) ≡ said
  after_last (Ok c) = refl
  after_last (Err f) = refl

  -- what is left behind bytes is the last line of them
  pub whole_line : (Stands : C → Type 0) (c : C) (bytes held : List ℕ) (p : Passes step Stands c bytes held) → HasNoLineFeed held → over step c (lines_of bytes) ≡ step p.course false held
  whole_line Stands c bytes held p none =
      let leads : over step c (lines_of (bytes ++ [])) ≡ over step p.course (lines_of (held ++ [])) = p.leads [] in
      let P : List ℕ → Type 0 = λ xs. over step c (lines_of xs) ≡ over step p.course (lines_of (held ++ [])) in
      let Q : List ℕ → Type 0 = λ xs. over step c (lines_of bytes) ≡ over step p.course (lines_of xs) in
      let whole : over step c (lines_of bytes) ≡ over step p.course (lines_of held) = subst Q (append-nil held) (subst P (append-nil bytes) leads) in
      whole ∙ ap (λ lines. over step p.course lines) (lines_of-last held none) ∙ after_last (step p.course false held)

  -- the same of the bytes that were read of a source
  pub last_line : (Stands : C → Type 0) (c : C) (held : List ℕ) (old now : Option (List ℕ)) (m : Remains step Stands c held old now) → HasNoLineFeed held
      → over step c (lines_of m.bytes) ≡ step m.passes.course false held
  last_line Stands c held old now m none = whole_line Stands c m.bytes held m.passes none

  -- bytes whose lines are stopped, whatever follows
  pub whole_stops : (c : C) (bytes : List ℕ) (e : LineError) → Stops step e c bytes → Fails e (over step c (lines_of bytes))
  whole_stops c bytes e s = subst (λ xs. Fails e (over step c (lines_of xs))) (append-nil bytes) (s [])

  pub last_over : (Stands : C → Type 0) (c : C) (held : List ℕ) (old now : Option (List ℕ)) (bytes : List ℕ) (m : Remains step Stands c held old now) → IsAtEnd now → HasNoLineFeed held → old ≡ Some bytes
      → over step c (lines_of bytes) ≡ step m.passes.course false held
  last_over Stands c held old now bytes m end none is =
      let all : bytes ≡ m.bytes = all_read old now now m.bytes [] bytes m.consumed (Consumes-none now) refl end is in
      ap (λ xs. over step c (lines_of xs)) all ∙ last_line Stands c held old now m none

pub ends_reads : {C : Type 0} (Stands : C → Type 0) (whole said : Result C Fault) → whole ≡ said → Goes Stands (Ok tt) said → ReadsLines Stands whole (Ok tt)
ends_reads Stands whole said e h = (h.0, e ∙ h.1, h.2)

pub ends_stops : {C : Type 0} (Stands : C → Type 0) (x : LineError) (whole said : Result C Fault) → whole ≡ said → Fails x said → ReadsLines Stands whole (Err (read_error x))
ends_stops Stands errors.NoMemory whole said e h = tt
ends_stops Stands (errors.Fault f) whole said e h = e ∙ h
