-- The sections of units, and the text of a library with them.
use Rattle.std.specs.Prelude.{ℕ, ◌+◌, List, [], ◌∷◌, ◌++◌, length}
use Rattle.lk_lines.specs.declared.tags.Tag.TheVariants as tag
use Rattle.lk_lines.specs.Tags.{tag_word}
use Rattle.lk_written.specs.Section.{Section}
use Rattle.lk_trim.specs.Written.{Written, File, beginning, fields, line}
use Rattle.lk_trim.specs.Whole.{Kept, write_all}
use Rattle.lk_sections.specs.Lines.{numbers_from, write_lines}

abbrev pub begin_text : ℕ → Written → List ℕ
begin_text unit w = tag_word tag.Section ++ fields (unit ∷ [])

abbrev pub parts_text : ℕ → List ℕ → Written → List ℕ
parts_text first parts w = tag_word tag.Parts ++ fields (numbers_from first parts)

-- the section of a unit of this number; its lines have the numbers from `first` on
abbrev pub write_section : ℕ → ℕ → Section → File → File
write_section unit first s f =
    line (parts_text first s.parts) (write_lines first first s.lines (line (begin_text unit) f))

-- a section, and the number of its unit
pub record UnitSection : Type 0 where
  pub unit : ℕ
  pub section : Section

-- sections one after another; the first line of the first of them has number `first`
abbrev pub write_sections : ℕ → List UnitSection → File → File
write_sections first [] f = f
write_sections first (s ∷ ss) f =
    write_sections (first + length s.section.lines) ss (write_section s.unit first s.section f)

-- how many lines sections have together
abbrev pub count_lines : List UnitSection → ℕ
count_lines [] = 0
count_lines (s ∷ ss) = length s.section.lines + count_lines ss

-- the canonical text of units, and the line behind which sections stand
abbrev pub trace_beginning : List Kept → File
trace_beginning ks = line (λ w. tag_word tag.Trace) (write_all ks beginning)

abbrev pub trace_text : List Kept → List UnitSection → List ℕ
trace_text ks ss = (write_sections 0 ss (trace_beginning ks)).text
