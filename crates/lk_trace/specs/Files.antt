-- A file with written derivations, by the numbers of a store, and what it stands for.
use Rattle.std.specs.Prelude.{◌≡◌, ℕ, ◌<◌, List, [], ◌∷◌, map, zip, length, All}
use Rattle.lk_written.specs.Outcomes as written
use Rattle.lk_store.specs.Contents.{Contents}
use Rattle.lk_store.specs.Store.{contents_of}
use Rattle.lk_env.specs.Units.{library_of}
use Rattle.lk_trace.specs.declared.sections.Line.{Line}
use Rattle.lk_trace.specs.declared.traced.FileSection.{FileSection}
use Rattle.lk_trace.specs.declared.traced.Traced.{Traced}
use Rattle.lk_trace.specs.Meaning.{line_of, IsSectionIn}

abbrev pub file_line : Contents → ℕ × Line → written.FileLine
file_line c p = record { number = p.0; line = line_of c p.1 }

abbrev pub section_at : Contents → FileSection → written.FileSection
section_at c s = record {
  unit = s.section.unit;
  lines = map (file_line c) (zip s.numbers.items s.section.lines.items);
  end = s.end;
  parts = s.section.parts.items;
}

abbrev pub sections_of : Traced → List written.FileSection
sections_of t = map (section_at (contents_of t.library.tables)) t.sections.items

-- its trees are trees of the store, and each of its lines has a number
pub record IsFileSectionIn (c : Contents) (s : FileSection) : Type 0 where
  pub section_in : IsSectionIn c s.section
  pub numbered : length s.numbers.items ≡ length s.section.lines.items

abbrev pub AreSectionsIn : Traced → Type 0
AreSectionsIn t = All (IsFileSectionIn (contents_of t.library.tables)) t.sections.items

-- each is of a unit above that of the one before it, and the first of one above n
abbrev pub AreAbove : ℕ → List FileSection → Type 0
AreAbove n [] = Unit {0}
AreAbove n (s ∷ more) = (n < s.section.unit) × AreAbove s.section.unit more

-- the units of the sections rise
abbrev pub AreRising : List FileSection → Type 0
AreRising [] = Unit {0}
AreRising (s ∷ more) = AreAbove s.section.unit more

-- what comes of unit n
abbrev pub outcome_in : Traced → ℕ → written.Outcome
outcome_in t n = written.outcome_of (library_of t.library) (sections_of t) n
