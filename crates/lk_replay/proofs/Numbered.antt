-- The lines of a section with their numbers in the file.
use Rattle.std.proofs.Common.{◌≡◌, ℕ, suc, zero, List, [], ◌∷◌, length, map, zip, Option, Some, None, refl, ap, arith}
use Rattle.std.specs.Prelude.{slice_get}
use Rattle.lk_written.specs.Line as written
use Rattle.lk_written.specs.Section as written_section
use Rattle.lk_written.specs.Outcomes as plain
use Rattle.lk_written.specs.Outcomes.{number_at}
use Rattle.lk_store.specs.Contents.{Contents}
use Rattle.lk_trace.specs.declared.sections.Line.{Line}
use Rattle.lk_trace.specs.declared.traced.FileSection.{FileSection}
use Rattle.lk_trace.specs.Meaning.{line_of, section_of}
use Rattle.lk_trace.specs.Files.{file_line, section_at}

-- the number, or else that of the line that ends the section
abbrev pub number_or : ℕ → Option ℕ → ℕ
number_or end o = elim o [ Some n ↦ n | None ↦ end ]

module _ (c : Contents) where
  -- without numbers they are the lines
  pub lines_of : (ns : List ℕ) (ls : List Line) → length ns ≡ length ls
      → map (λ l. l.line) (map (file_line c) (zip ns ls)) ≡ map (line_of c) ls
  lines_of [] [] h = refl
  lines_of [] (l ∷ ls) h = absurd (omega (arith, h))
  lines_of (n ∷ ns) [] h = absurd (omega (arith, h))
  lines_of (n ∷ ns) (l ∷ ls) h = ap (λ zs. line_of c l ∷ zs) (lines_of ns ls (omega (arith, h)))

  -- the number of the line at a place
  pub number_is : (ns : List ℕ) (ls : List Line) → length ns ≡ length ls → (end i : ℕ)
      → number_at (map (file_line c) (zip ns ls)) end i
      ≡ number_or end (slice_get ns i)
  number_is [] [] h end i = refl
  number_is [] (l ∷ ls) h end i = absurd (omega (arith, h))
  number_is (n ∷ ns) [] h end i = absurd (omega (arith, h))
  number_is (n ∷ ns) (l ∷ ls) h end zero = refl
  number_is (n ∷ ns) (l ∷ ls) h end (suc i) = number_is ns ls (omega (arith, h)) end i

  abbrev with_lines : FileSection → List written.Line → written_section.Section
  with_lines s ls = record { lines = ls; parts = s.section.parts.items }

  -- the section without numbers of the file is the section
  pub section_is : (s : FileSection) → length s.numbers.items ≡ length s.section.lines.items
      → plain.section_of (section_at c s) ≡ section_of c s.section
  section_is s h = ap (with_lines s) (lines_of s.numbers.items s.section.lines.items h)
