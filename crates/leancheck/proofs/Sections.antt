-- What comes of the sections of a file, and what holds of it.
use Rattle.std.proofs.Common.{◌≡◌, ◌<◌, ℕ, ◌+◌, true, List, [], ◌∷◌, ◌++◌, length, map, Ok, Some, None, refl, sym, ap, ◌∙◌, arith}
use Rattle.std.specs.Prelude.{slice_get}
use Rattle.std.specs.List.{range_with_len}
use Rattle.std.specs.declared.option.Option.{Option}
use Rattle.std.proofs.lemmas.List.{length-map, map_push}
use Rattle.std.proofs.lemmas.List.FromFn.{map-range_with_len_more}
use Rattle.lk_rulebook.specs.Units.{LibraryUnit, of_decl, of_block, Library}
use Rattle.lk_verdict.proofs.Spelled.{spelled_clear}
use Rattle.lk_written.specs.Outcomes.{FileSection, section_for, section_of, by_fault, by_section, by_unit, holds, unwritten, outcome_of, Outcome as PlainOutcome}
use Rattle.lk_written.specs.Section.{Section, section_at_fault, section_holds}
use Rattle.lk_written_sound.proofs.Faults.{holds_so}
use Rattle.lk_answered.proofs.Good.{written_good}
use Rattle.lk_store.specs.Store.{contents_of}
use Rattle.lk_env.specs.declared.unit.Unit.{Unit as StoredUnit}
use Rattle.lk_env.specs.StoredLibrary.{StoredLibrary}
use Rattle.lk_env.specs.Units.{unit_at, library_of}
use Rattle.lk_trace.specs.Files.{sections_of}
use Rattle.lk_trace.specs.Outcomes.{outcome_at}
use Rattle.lk_trace.specs.declared.outcome.Outcome.{Outcome}
use Rattle.lk_trace.specs.declared.traced.Traced.{Traced}
use Rattle.lk_text.specs.Replayed.{replay_text}
use Rattle.lk_traced.specs.Held.{trace_at}
use Rattle.lk_traced.specs.Trace.{trace_of}
use Rattle.leancheck.specs.declared.status.Status.{Status}
use Rattle.leancheck.specs.Ends.{outcomes_of, replay_status, IsReplay}
use Rattle.leancheck.proofs.TraceNames.{trace_spelled}

-- a unit of the library, and all of them
module _ (l : StoredLibrary) (us : List StoredUnit) (same : us ≡ l.units) where
  pub unit_below : (n : ℕ) → n < length us → n < length (library_of l)
  unit_below n below = omega (arith, below, ap length same, length-map l.units (unit_at (contents_of l.tables)))

  pub as_many_units : length us ≡ length (library_of l)
  as_many_units = ap length same ∙ sym (length-map l.units (unit_at (contents_of l.tables)))

-- one more outcome
pub one_more : (us : Library) (sections : List FileSection) (n : ℕ) (old new : List Outcome) (o : Outcome) → map outcome_at old ≡ map (outcome_of us sections) (range_with_len 0 n)
    → outcome_at o ≡ outcome_of us sections n → new ≡ old ++ o ∷ [] → map outcome_at new ≡ map (outcome_of us sections) (range_with_len 0 (n + 1))
one_more us sections n old new o h is pushed =
    ap (map outcome_at) pushed ∙ map_push outcome_at old o
    ∙ ap (λ xs. xs ++ outcome_at o ∷ []) h ∙ ap (λ x. map (outcome_of us sections) (range_with_len 0 n) ++ x ∷ []) is
    ∙ sym (map-range_with_len_more (outcome_of us sections) 0 n n (omega arith))

-- a unit of which comes that its section holds has a section that holds
module _ (us : Library) (n : ℕ) where
  no_place : (s : FileSection) (o : Option ℕ) → by_fault s o ≡ holds → o ≡ None
  no_place s None e = refl
  no_place s (Some i) e = absurd cc

  some_section : (o : Option FileSection) → by_section us n o ≡ holds → (s : Section) × (section_holds us n s ≡ true)
  some_section None e = absurd cc
  some_section (Some s) e = (section_of s, holds_so us n (section_of s) (no_place s (section_at_fault us n (section_of s)) e))

  of_unit : (sections : List FileSection) (u : LibraryUnit) → by_unit us n sections u ≡ holds → (s : Section) × (section_holds us n s ≡ true)
  of_unit sections (of_decl d) e = some_section (section_for n sections) e
  of_unit sections (of_block b rs) e = absurd cc

  pub section_of_ok : (sections : List FileSection) → outcome_of us sections n ≡ holds → (s : Section) × (section_holds us n s ≡ true)
  section_of_ok sections e = go (slice_get us n) e
    where
      go : (o : Option LibraryUnit) → elim o as (λ x. PlainOutcome) [ Some u ↦ by_unit us n sections u | None ↦ unwritten ] ≡ holds → (s : Section) × (section_holds us n s ≡ true)
      go (Some u) e = of_unit sections u e
      go None e = absurd cc

-- what is told of a file that was read
pub replay_made : (bytes : List ℕ) (t : Traced) (outcomes told counted : List Outcome) (text : List ℕ) (status : Status) → trace_of bytes ≡ Ok (trace_at t)
    → map outcome_at outcomes ≡ outcomes_of (library_of t.library) (sections_of t) → told ≡ outcomes → text ≡ replay_text (library_of t.library) (map outcome_at told)
    → counted ≡ outcomes → status ≡ replay_status (map outcome_at counted) → IsReplay bytes status text
replay_made bytes t outcomes told counted text status reads are same is as_many ends = record {
  trace = trace_at t;
  outcomes = map outcome_at outcomes;
  spelled = reads;
  are = are;
  status_is = ends ∙ ap (λ os. replay_status (map outcome_at os)) as_many;
  text_is = is ∙ ap (λ os. replay_text (library_of t.library) (map outcome_at os)) same;
  good = λ n ok shown.
      let us = library_of t.library in
      let s = section_of_ok us n (sections_of t) ok in
      written_good us n s.0 (spelled_clear us (trace_spelled bytes (trace_at t) reads)) shown s.1;
}
