-- What comes of a section that a unit may have.
use Rattle.std.specs.Prelude.{ℕ, Option, Some, None}
use Rattle.lk_rulebook.specs.Units.{LibraryUnit, Library}
use Rattle.lk_written.specs.Section.{unit_at_fault}
use Rattle.lk_written.specs.Outcomes.{FileSection, Outcome, unwritten, by_fault, section_of}

-- as that of unit n, which is u
abbrev pub outcome_by : Library → ℕ → LibraryUnit → Option FileSection → Outcome
outcome_by us n u None = unwritten
outcome_by us n u (Some s) = by_fault s (unit_at_fault us n u (section_of s))
