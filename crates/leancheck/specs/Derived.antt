-- Sections as they are written one after another, by the numbers of a store that grows.
use Rattle.std.specs.Prelude.{◌≡◌, ℕ, true, List, [], ◌∷◌, ◌++◌, length}
use Rattle.lk_rulebook.specs.Units.{Library}
use Rattle.lk_written.specs.Section.{Section, section_holds}
use Rattle.lk_store.specs.Contents.{Contents, Extends}
use Rattle.lk_trim.specs.declared.numbers.Numbers.{Numbers}
use Rattle.lk_trim.specs.Whole.{Kept}
use Rattle.lk_trim.specs.Stored.{AreNumbersIn}
use Rattle.lk_sections.specs.declared.trace.TraceWriter.{TraceWriter}
use Rattle.lk_sections.specs.Sections.{UnitSection}
use Rattle.lk_sections.specs.Stored.{HasWritten}
use Rattle.lk_book.specs.File.{Export, budget_of}
use Rattle.leancheck.specs.Traces.{all_kept, AreSections}

-- what was noted is numbers of a store that has become this one since
pub record WereNumbersIn (d : Contents) (n : Numbers) : Type 0 where
  pub before : Contents
  pub keeps : Extends before d
  pub numbers : AreNumbersIn before n

-- behind these sections one of unit n is written, which holds
pub record HasOneMore (us : Library) (n : ℕ) (c : Contents) (ks : List Kept) (ss : List UnitSection)
    (t : TraceWriter) : Type 0 where
  pub section : Section
  pub holds : section_holds us n section ≡ true
  pub written : HasWritten c ks (ss ++ record { unit = n; section = section } ∷ []) t

-- the sections of the first n units are written
pub record AreTraced (us : Library) (budget : ℕ → ℕ) (c : Contents) (ks : List Kept) (n : ℕ)
    (t : TraceWriter) : Type 0 where
  pub sections : List UnitSection
  pub are : AreSections us budget n sections
  pub written : HasWritten c ks sections t

-- and so are those of all units of an export
pub record IsAllTraced (e : Export) (steps : ℕ) (t : TraceWriter) : Type 0 where
  pub contents : Contents
  pub traced : AreTraced e.units (budget_of e steps) contents (all_kept e) (length e.units) t
