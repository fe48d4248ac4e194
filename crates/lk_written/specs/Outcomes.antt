-- What comes of the sections of a file, unit by unit.
use Rattle.std.specs.Prelude.{ℕ, nat_eq, List, [], ◌∷◌, map, Option, Some, None, slice_get}
use Rattle.std.specs.Prelude.{if◌then◌else◌}
use Rattle.lk_rulebook.specs.Units.{LibraryUnit, of_decl, of_block, Library}
use Rattle.lk_written.specs.Line.{Line}
use Rattle.lk_written.specs.Section.{Section, section_at_fault}

-- a line of a derivation, with its number in the file
pub record FileLine : Type 0 where
  pub number : ℕ
  pub line : Line

-- What stands between `#AT` and `#OK`: the unit, the lines in their order, and the number in the
-- file of the line that ends them, with the premises that it names, each the place of a line.
pub record FileSection : Type 0 where
  pub unit : ℕ
  pub lines : List FileLine
  pub end : ℕ
  pub parts : List ℕ

-- the section without numbers of the file
abbrev pub section_of : FileSection → Section
section_of s = record { lines = map (λ l. l.line) s.lines; parts = s.parts }

-- Of a unit: its section holds; it has none; it is a block, which has none; or this line of the
-- file, by its number, is the first of the section that is at fault.
pub data Outcome : Type 0 where
  holds unwritten block : Outcome
  at_fault : ℕ → Outcome

-- the section of unit n, the first where there are several
abbrev pub section_for : ℕ → List FileSection → Option FileSection
section_for n [] = None
section_for n (s ∷ more) = if nat_eq s.unit n then Some s else section_for n more

-- the number in the file of the line at this place, where the one that ends the section comes last
abbrev pub number_at : List FileLine → ℕ → ℕ → ℕ
number_at lines end i = elim (slice_get lines i) [ Some l ↦ l.number | None ↦ end ]

-- of a section whose first line at fault, if there is one, has this place
abbrev pub by_fault : FileSection → Option ℕ → Outcome
by_fault s None = holds
by_fault s (Some i) = at_fault (number_at s.lines s.end i)

abbrev pub by_section : Library → ℕ → Option FileSection → Outcome
by_section us n None = unwritten
by_section us n (Some s) = by_fault s (section_at_fault us n (section_of s))

abbrev pub by_unit : Library → ℕ → List FileSection → LibraryUnit → Outcome
by_unit us n sections (of_decl d) = by_section us n (section_for n sections)
by_unit us n sections (of_block b rs) = block

-- what comes of unit n of the library, where these are the sections
abbrev pub outcome_of : Library → List FileSection → ℕ → Outcome
outcome_of us sections n = elim (slice_get us n) [
  | Some u ↦ by_unit us n sections u
  | None ↦ unwritten
]
