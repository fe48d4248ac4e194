-- The sections at the end of a file.
use Rattle.std.proofs.Common.{◌≡◌, ℕ, true, List, [], Ok, Err, Some, None, Vec, map, refl, ap, sym, ◌∙◌}
use Rattle.std.specs.Prelude.{Option, Result, All, option_map, slice_get}
use Rattle.std.specs.declared.alloc.Global.{Global}
use Rattle.std.proofs.lemmas.Option.{slice_get-map}
use Rattle.std.proofs.lemmas.List.Elements.{All-weaker}
use Rattle.lk_rulebook.specs.Units.{LibraryUnit, of_decl, of_block, Library}
use Rattle.lk_store.specs.Contents.{Contents}
use Rattle.lk_store.specs.Store.{contents_of}
use Rattle.lk_env.specs.StoredLibrary.{StoredLibrary}
use Rattle.lk_lines.specs.declared.line.Fault.{Fault}
use Rattle.lk_lines.specs.declared.words.Word.TheVariants.{TraceOrder}
use Rattle.lk_units.specs.State.{State}
use Rattle.lk_book.specs.File.{Export, after, export_at, export_stated}
use Rattle.lk_book.specs.Reading.{ReadsLibrary}
use Rattle.lk_book.specs.declared.error.ReadError.{ReadError}
use Rattle.lk_book.specs.declared.error.ReadError.TheVariants as read_errors
use Rattle.lk_written.specs.Outcomes.{FileSection as PlainSection}
use Rattle.lk_trace.specs.declared.traced.FileSection.{FileSection}
use Rattle.lk_trace.specs.Files.{section_at, AreRising}
use Rattle.lk_traced.specs.Course.{TraceCourse}
use Rattle.lk_traced.specs.Held.{IsDeclared, ReadsTrace}
use Rattle.lk_traced.specs.Placed.{Behind, OpenSection}
use Rattle.lk_traced.specs.Begun.{is_declaration, AreOrdered, HoldsOpen, HoldsSections, AreSectionsKnown}
use Rattle.lk_traced.specs.Standing.{HoldsBehind, StandsTrace, sections_stated, TellsEnded, AreEndedOf}
use Rattle.lk_traced.specs.Trace.{Trace, trace_stated}
use Rattle.lk_traced.specs.declared.reader.TraceReader.{TraceReader}
use Rattle.lk_traced.specs.declared.sections.BegunSection.{BegunSection}
use Rattle.lk_traced.specs.declared.sections.Sections.{Sections}

declared_by : (us : Library) (n : ℕ) (o : Option LibraryUnit) → slice_get us n ≡ o → option_map is_declaration o ≡ Some true → IsDeclared us n
declared_by us n None is e = absurd (cc)
declared_by us n (Some (of_decl d)) is e = (d, is)
declared_by us n (Some (of_block b rs)) is e = absurd (cc)

declared_at : (us : Library) (n : ℕ) → slice_get (map is_declaration us) n ≡ Some true → IsDeclared us n
declared_at us n e = declared_by us n (slice_get us n) refl (sym (slice_get-map is_declaration us n) ∙ e)

module _ (s : Sections) (c : Contents) (k : AreSectionsKnown s c) (none : s.begun ≡ None) where
  ordered : AreOrdered s.kinds.items s.least s.ended.items
  ordered = rw none at k.ordered

  -- their units rise
  pub ended_rising : AreRising s.ended.items
  ended_rising = ordered.rising

  -- and are declarations alone
  pub ended_declared : (st : State) (b : Behind) (e : Export) → HoldsSections s c b → export_stated st ≡ Ok b.export → export_stated st ≡ Ok e → AreEndedOf e.units s.ended
  ended_declared st b e h is this =
      let same : b.export ≡ e = cc in
      let kinds : s.kinds.items ≡ map is_declaration e.units = rw same at h.kinds in
      All-weaker (λ (x : FileSection). slice_get s.kinds.items x.section.unit ≡ Some true) (λ (x : FileSection). IsDeclared e.units x.section.unit)
      (λ x a. declared_at e.units x.section.unit (rw kinds at a)) s.ended.items ordered.alone

-- a file without `#TR` has no sections
pub none_ended : (c : Contents) (st : State) (b : Option Behind) → HoldsBehind None c st b → sections_stated b ≡ Ok []
none_ended c st None h = refl
none_ended c st (Some b) h = absurd h

module _ (s : Sections) (c : Contents) (st : State) where
  -- a section is open
  pub open_ended : (b : Option Behind) (o : BegunSection) → s.begun ≡ Some o → HoldsBehind (Some s) c st b → sections_stated b ≡ Err (record { line = o.number; word = TraceOrder })
  open_ended None o is h = absurd h
  open_ended (Some b) o is h = go b.begun refl (rw is at h.0.begun)
    where
      go : (p : Option OpenSection) → b.begun ≡ p → HoldsOpen (Some o) c p → sections_stated (Some b) ≡ Err (record { line = o.number; word = TraceOrder })
      go None e k = absurd k
      go (Some p) e k = rw (e, k.number) refl

  -- all sections are ended
  pub all_ended : (b : Option Behind) → s.begun ≡ None → HoldsBehind (Some s) c st b → sections_stated b ≡ Ok (map (section_at c) s.ended.items)
  all_ended None none h = absurd h
  all_ended (Some b) none h = go b.begun refl (rw none at h.0.begun)
    where
      go : (p : Option OpenSection) → b.begun ≡ p → HoldsOpen None c p → sections_stated (Some b) ≡ Ok (map (section_at c) s.ended.items)
      go None e k = rw (e, h.0.ended) refl
      go (Some p) e k = absurd k

  pub all_declared : (b : Option Behind) (e : Export) → AreSectionsKnown s c → s.begun ≡ None → HoldsBehind (Some s) c st b → export_stated st ≡ Ok e → AreEndedOf e.units s.ended
  all_declared None e k none h is = absurd h
  all_declared (Some b) e k none h is = ended_declared s c k none st b e h.0 h.1 is

-- what a file states, by its export and its sections
abbrev whole : Export → List PlainSection → Trace
whole e ss = record { export = e; sections = ss }

abbrev with_export : TraceCourse → List PlainSection → Result Trace Fault
with_export t ss = after (export_stated t.course.state) (λ e. Ok (whole e ss))

-- its sections, where all are ended, and then the export
trace_is : (t : TraceCourse) (x : Option Sections) (c : Contents) (b : Option Behind) → HoldsBehind x c t.course.state b → trace_stated t b ≡ after (sections_stated b) (λ ss. with_export t ss)
trace_is t None c None h = refl
trace_is t None c (Some b) h = absurd h
trace_is t (Some s) c None h = absurd h
trace_is t (Some s) c (Some b) h = go b.begun refl
  where
    go : (p : Option OpenSection) → b.begun ≡ p → trace_stated t (Some b) ≡ after (sections_stated (Some b)) (λ ss. with_export t ss)
    go None e = rw (e, h.1) refl
    go (Some o) e = rw e refl

module _ (r : TraceReader) (c : Contents) (t : TraceCourse) (h : StandsTrace r c t) where
  pub trace_open : (e : ReadError) → TellsEnded c (Err e) (sections_stated t.behind) → ReadsTrace (trace_stated t t.behind) (Err e)
  trace_open read_errors.NoMemory f = tt
  trace_open read_errors.ReadFault f = tt
  trace_open (read_errors.Fault w) f = trace_is t r.behind c t.behind h.behind ∙ ap (λ x. after x (λ ss. with_export t ss)) f

  module _ (xs : Vec FileSection Global) (ended : sections_stated t.behind ≡ Ok (map (section_at c) xs.items)) where
    trace_then : trace_stated t t.behind ≡ with_export t (map (section_at c) xs.items)
    trace_then = trace_is t r.behind c t.behind h.behind ∙ ap (λ x. after x (λ ss. with_export t ss)) ended

    pub trace_made : (l : StoredLibrary) → contents_of l.tables ≡ c → export_stated t.course.state ≡ Ok (export_at l) → ReadsTrace (trace_stated t t.behind) (Ok (record { library = l; sections = xs }))
    trace_made l same is =
        trace_then ∙ ap (λ x. after x (λ e. Ok (whole e (map (section_at c) xs.items)))) is ∙ ap (λ k. Ok (whole (export_at l) (map (section_at k) xs.items))) (sym same)

    pub trace_told : (e : ReadError) → ReadsLibrary (export_stated t.course.state) (Err e) → ReadsTrace (trace_stated t t.behind) (Err e)
    trace_told read_errors.NoMemory f = tt
    trace_told read_errors.ReadFault f = tt
    trace_told (read_errors.Fault w) f = trace_then ∙ ap (λ x. after x (λ e. Ok (whole e (map (section_at c) xs.items)))) f
