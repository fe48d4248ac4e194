-- A text that was read behind the units of a library, and texts that were read of a source.
use Rattle.std.proofs.Common.{◌≡◌, ℕ, List, ◌++◌, Ok, refl, ap, sym, ◌∙◌, subst}
use Rattle.std.specs.Prelude.{true}
use Rattle.std.proofs.lemmas.List.{map-append}
use Rattle.lk_store.specs.Contents.{Contents, Extends}
use Rattle.lk_store.specs.Store.{no_tables, contents_of}
use Rattle.lk_env.specs.StoredLibrary.{StoredLibrary}
use Rattle.lk_env.specs.Units.{unit_at, library_at, library_of, AreUnitsIn}
use Rattle.lk_env.specs.declared.unit.Unit.{Unit as StoredUnit}
use Rattle.lk_env.proofs.Stays.{library_stays}
use Rattle.lk_lines.specs.declared.line.LineError.{LineError}
use Rattle.lk_lines.specs.declared.tags.Dialect.TheVariants as dialects
use Rattle.lk_units.specs.State.{begin}
use Rattle.lk_units.specs.Held.{Holds}
use Rattle.lk_units.specs.declared.assembler.Assembler.{Assembler}
use Rattle.lk_book.specs.Course.{step}
use Rattle.lk_book.specs.Courses.{over, Fails, Goes}
use Rattle.lk_book.specs.File.{lines_of}
use Rattle.lk_book.specs.Passing.{Stands}
use Rattle.lk_book.specs.Reading.{HoldsLines}
use Rattle.lk_book.specs.Texts.{begin_behind, text_course, text_of, AddsText}
use Rattle.lk_book.specs.declared.reader.Reader.{Reader}
use Rattle.lk_book.proofs.Overs.{over_is}

course_is : (before : ℕ) (bytes : List ℕ) → over step (begin_behind before) (lines_of bytes) ≡ text_course before bytes
unfolding text_course
course_is before bytes = over_is (begin_behind before) (lines_of bytes)

-- a reader that took no line
pub begins_behind : (before : ℕ) (a : Assembler) (store : Contents) → Holds a store begin
    → Stands (record { assembler = a; dialect = dialects.Text; first = true; number = 0; before = before }) store (begin_behind before)
begins_behind before a store h = record { dialect = refl; first = refl; number = refl; before = refl; holds = h }

pub lines_held : (before : ℕ) (r : Reader) (store : Contents) (bytes : List ℕ) → Goes (Stands r store) (Ok tt) (over step (begin_behind before) (lines_of bytes)) → HoldsLines store (text_course before bytes) (Ok r.assembler)
lines_held before r store bytes h = (h.0, sym (course_is before bytes) ∙ h.1, h.2.holds)

pub lines_fail : (before : ℕ) (e : LineError) (bytes : List ℕ) → Fails e (over step (begin_behind before) (lines_of bytes)) → Fails e (text_course before bytes)
lines_fail before e bytes h = subst (Fails e) (course_is before bytes) h

-- The store of a library grew.
module _ (old new : StoredLibrary) (x : Extends (contents_of old.tables) (contents_of new.tables)) (rest : record new { tables = no_tables } ≡ record old { tables = no_tables }) (us : List StoredUnit) (are : us ≡ old.units)
    (known : AreUnitsIn (contents_of old.tables) us) where
  pub units_same : new.units ≡ old.units
  units_same = ap (λ (l : StoredLibrary). l.units) rest

  pub budgets_same : new.budgets ≡ old.budgets
  budgets_same = ap (λ (l : StoredLibrary). l.budgets) rest

  pub library_same : library_of new ≡ library_of old
  library_same = ap (library_at (contents_of new.tables)) (units_same ∙ sym are) ∙ library_stays (contents_of old.tables) (contents_of new.tables) x us known ∙ ap (library_at (contents_of old.tables)) are

  pub text_added : (grown : StoredLibrary) (more : List StoredUnit) (text : List ℕ) → grown ≡ record new { units = new.units ++ more } → text_of text ≡ Ok (library_at (contents_of new.tables) more) → AddsText old grown text
  text_added grown more text is stated = record {
    units = library_at (contents_of new.tables) more;
    stated = stated;
    library = ap library_of is ∙ map-append (unit_at (contents_of new.tables)) new.units more ∙ ap (λ vs. vs ++ library_at (contents_of new.tables) more) library_same;
  }
