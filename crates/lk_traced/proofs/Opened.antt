-- The line `#TR`.
use Rattle.std.proofs.Common.{◌≡◌, ℕ, Bool, List, [], ◌∷◌, Ok, Err, None, map, refl, ap, sym, ◌∙◌}
use Rattle.std.specs.Prelude.{nat_eq, true, false, Some, Result}
use Rattle.lk_rulebook.specs.Units.{Library}
use Rattle.lk_store.specs.Contents.{Contents}
use Rattle.lk_store.specs.Values.{AreApart}
use Rattle.lk_members.specs.declared.line.StoredLine.{StoredLine}
use Rattle.lk_members.specs.Faults.{first_open}
use Rattle.lk_members.specs.Units.{one, block, is_alone, units_of}
use Rattle.lk_members.specs.Stored.{NumberedUnit, lines_of, unit_stated, AreLinesIn}
use Rattle.lk_members.specs.Plain.{library_stated, lines_at}
use Rattle.lk_members.proofs.Standing.{open_stands, library_stands}
use Rattle.lk_lines.specs.declared.line.Fault.{Fault}
use Rattle.lk_lines.specs.declared.line.LineError.{LineError}
use Rattle.lk_lines.specs.declared.line.LineError.TheVariants as errors
use Rattle.lk_book.specs.Course.{Course}
use Rattle.lk_book.specs.Courses.{Fails}
use Rattle.lk_book.specs.File.{Export, after, closed, units_stated, export_stated}
use Rattle.lk_book.specs.Passing.{Stands}
use Rattle.lk_book.specs.declared.reader.Reader.{Reader}
use Rattle.lk_traced.specs.Placed.{begin_behind}
use Rattle.lk_traced.specs.Begun.{is_declaration, HoldsSections}
use Rattle.lk_traced.specs.Course.{trace_begun}
use Rattle.lk_traced.specs.Standing.{GoesBefore}
use Rattle.lk_traced.specs.declared.sections.Sections.{Sections}

alone_same : (c : Contents) (us : List NumberedUnit) → map is_declaration (map (unit_stated c) us) ≡ map is_alone us
alone_same c [] = refl
alone_same c (one d ∷ us) = ap (λ ks. true ∷ ks) (alone_same c us)
alone_same c (block ts rs ∷ us) = ap (λ ks. false ∷ ks) (alone_same c us)

-- which units of the library are declarations alone
pub kinds_made : (c : Contents) (ls : List StoredLine) (kinds : List Bool) → AreApart [] c.names → AreLinesIn c ls → first_open nat_eq (lines_of ls) (lines_of ls) ≡ None
    → kinds ≡ map is_alone (units_of nat_eq (lines_of ls)) → (us : Library) × (units_stated (lines_at c ls) ≡ Ok us) × (kinds ≡ map is_declaration us)
kinds_made c ls kinds apart k none is = (
  library_stated (lines_at c ls),
  ap (λ o. closed o (lines_at c ls)) (open_stands c apart ls k ∙ none),
  is ∙ sym (alone_same c (units_of nat_eq (lines_of ls))) ∙ sym (ap (map is_declaration) (library_stands c apart ls k)),
)

fails_after : {A B : Type 0} (e : LineError) (said : Result A Fault) (next : A → Result B Fault) → Fails e said → Fails e (after said next)
fails_after errors.NoMemory said next h = tt
fails_after (errors.Fault f) said next h = rw h refl

module _ (r : Reader) (k : Contents) (c : Course) (h : Stands r k c) where
  -- a block is open
  pub trace_stops : (e : LineError) → Fails e (units_stated (lines_at k r.assembler.members.lines.items)) → Fails e (trace_begun c)
  trace_stops e f = fails_after e (export_stated c.state) (λ x. Ok (record { course = record c { first = false }; behind = Some (begin_behind x) }))
      (fails_after e (units_stated c.state.lines) (λ us. Ok (record { units = us; budgets = c.state.budgets })) (rw h.holds.lines at f))

  -- what stands behind the line begins
  pub trace_begins : (x : Sections) (kinds : List Bool) → ((us : Library) × (units_stated (lines_at k r.assembler.members.lines.items) ≡ Ok us) × (kinds ≡ map is_declaration us))
      → ((e : Export) → kinds ≡ map is_declaration e.units → HoldsSections x k (begin_behind e)) → GoesBefore (record r { first = false }) k (Ok (Some x)) (trace_begun c)
  trace_begins x kinds u holds =
      let e : Export = record { units = u.0; budgets = c.state.budgets } in
      let stated : units_stated c.state.lines ≡ Ok u.0 = rw h.holds.lines at u.1 in (
        record { course = record c { first = false }; behind = Some (begin_behind e) },
        rw stated refl,
        record { dialect = h.dialect; first = refl; number = h.number; before = h.before; holds = h.holds },
        (holds e u.2, rw stated refl),
      )
