-- A library that was read.
use Rattle.std.proofs.Common.{◌≡◌, ℕ, List, [], Some, None, Ok, Err, Result, ap, subst, sym, ◌∙◌}
use Rattle.std.specs.Prelude.{nat_eq, map}
use Rattle.lk_rulebook.specs.Units.{Library}
use Rattle.lk_store.specs.Contents.{Contents}
use Rattle.lk_store.specs.Store.{contents_of}
use Rattle.lk_store.specs.Values.{AreApart}
use Rattle.lk_store.specs.declared.tables.Tables.{Tables}
use Rattle.lk_env.specs.Budgets.{StatedBudget}
use Rattle.lk_env.specs.Units.{library_at}
use Rattle.lk_env.specs.declared.unit.Unit.{Unit as StoredUnit}
use Rattle.lk_env.specs.StoredLibrary.{StoredLibrary}
use Rattle.lk_members.specs.declared.line.StoredLine.{StoredLine}
use Rattle.lk_members.specs.Faults.{first_open}
use Rattle.lk_members.specs.Units.{units_of}
use Rattle.lk_members.specs.Stored.{lines_of, unit_stated, AreLinesIn}
use Rattle.lk_members.specs.Plain.{lines_at}
use Rattle.lk_members.proofs.Standing.{open_stands, library_stands}
use Rattle.lk_lines.specs.declared.words.Word.TheVariants.{BlockOpen}
use Rattle.lk_lines.specs.declared.line.Fault.{Fault}
use Rattle.lk_lines.specs.declared.line.LineError.{LineError}
use Rattle.lk_lines.specs.declared.line.LineError.TheVariants as line_errors
use Rattle.lk_units.specs.State.{State}
use Rattle.lk_units.specs.Held.{Holds}
use Rattle.lk_units.specs.declared.assembler.Assembler.{Assembler}
use Rattle.lk_book.specs.Course.{Course}
use Rattle.lk_book.specs.File.{Export, export_at, after, course_of, closed, units_stated, export_stated, export_of}
use Rattle.lk_book.specs.Courses.{Fails}
use Rattle.lk_book.specs.Reading.{read_error, TellsOpen, Reads, ReadsLibrary}
use Rattle.lk_book.specs.declared.error.ReadError.{ReadError}
use Rattle.lk_book.specs.declared.error.ReadError.TheVariants as errors

module _ (c : Contents) (ls : List StoredLine) (apart : AreApart [] c.names) (k : AreLinesIn c ls) where
  -- the units by numbers are those that the lines state
  pub units_made : (us : List StoredUnit) → first_open nat_eq (lines_of ls) (lines_of ls) ≡ None → library_at c us ≡ map (unit_stated c) (units_of nat_eq (lines_of ls)) → units_stated (lines_at c ls) ≡ Ok (library_at c us)
  units_made us none is =
      ap (λ o. closed o (lines_at c ls)) (open_stands c apart ls k ∙ none) ∙ ap Ok (library_stands c apart ls k ∙ sym is)

  -- the line that is open
  pub open_told : (n : ℕ) → first_open nat_eq (lines_of ls) (lines_of ls) ≡ Some n → units_stated (lines_at c ls) ≡ Err (record { line = n; word = BlockOpen })
  open_told n some = ap (λ o. closed o (lines_at c ls)) (open_stands c apart ls k ∙ some)

-- the error of a line, told of a file
pub open_tells : {A : Type 0} (e : LineError) (said : Result A Fault) → Fails e said → TellsOpen (read_error e) said
open_tells line_errors.NoMemory said h = tt
open_tells (line_errors.Fault f) said h = h

-- what was read of the lines is what the bytes state
pub file_read : {X : Type 0} (stated : State → Result X Fault) (IsRead : Result X Fault → Type 0) (said : Result Course Fault) (c : Contents) (a : Assembler) → Reads c said (Ok a)
    → ((s : State) → Holds a c s → IsRead (stated s)) → IsRead (after said (λ d. stated d.state))
file_read stated IsRead said c a reads h = rw reads.1 (h reads.0.state reads.2)

-- where no lines were read there is no library
pub library_not_read : (bytes : List ℕ) (c : Contents) (e : ReadError) → Reads c (course_of bytes) (Err e) → ReadsLibrary (export_of bytes) (Err e)
library_not_read bytes c errors.NoMemory h = tt
library_not_read bytes c errors.ReadFault h = tt
library_not_read bytes c (errors.Fault f) h = ap (λ x. after x (λ d. export_stated d.state)) h

abbrev stated : Library → List StatedBudget → Export
stated us bs = record { units = us; budgets = bs }

-- why there are no units is why there is no library
pub told_library : (e : ReadError) (c : Contents) (a : Assembler) (s : State) → TellsOpen e (units_stated (lines_at c a.members.lines.items)) → Holds a c s → ReadsLibrary (export_stated s) (Err e)
told_library errors.NoMemory c a s t h = tt
told_library errors.ReadFault c a s t h = absurd t
told_library (errors.Fault f) c a s t h =
    let none : units_stated s.lines ≡ Err f = subst (λ ls. units_stated ls ≡ Err f) h.lines t in
    ap (λ x. after x (λ us. Ok (stated us s.budgets))) none

-- a library of these units and budgets
pub made_library : (tables : Tables) (a : Assembler) (l : StoredLibrary) (us : List StoredUnit) (s : State) → l ≡ record { tables = tables; units = us; budgets = a.budgets.items }
    → units_stated (lines_at (contents_of tables) a.members.lines.items) ≡ Ok (library_at (contents_of tables) us) → Holds a (contents_of tables) s → export_stated s ≡ Ok (export_at l)
made_library tables a l us s is u h =
    let units = library_at (contents_of tables) us in
    let some : units_stated s.lines ≡ Ok units = subst (λ ls. units_stated ls ≡ Ok units) h.lines u in
    ap (λ x. after x (λ vs. Ok (stated vs s.budgets))) some ∙ ap (λ bs. Ok (stated units bs)) (sym h.budgets) ∙ ap (λ k. Ok (export_at k)) (sym is)
