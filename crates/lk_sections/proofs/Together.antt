-- One more section behind others.
use Rattle.std.proofs.Common.{◌≡◌, ℕ, ◌+◌, List, [], ◌∷◌, ◌++◌, length, ap, sym, ◌∙◌, arith}
use Rattle.std.proofs.lemmas.List.{length-map}
use Rattle.lk_store.specs.Contents.{Contents}
use Rattle.lk_trace.specs.declared.sections.Section.{Section}
use Rattle.lk_trace.specs.Meaning.{line_of, section_of}
use Rattle.lk_trim.specs.Written.{File}
use Rattle.lk_trim.specs.Whole.{Kept}
use Rattle.lk_trim.specs.Stored.{file_at, Writes}
use Rattle.lk_sections.specs.declared.trace.TraceWriter.{TraceWriter}
use Rattle.lk_sections.specs.Sections.{UnitSection, write_section, write_sections, count_lines, trace_beginning}
use Rattle.lk_sections.specs.Stored.{unit_section_at, HasWritten}

count_more : (ss : List UnitSection) (s : UnitSection) → count_lines (ss ++ s ∷ []) ≡ count_lines ss + length s.section.lines
count_more [] s = omega arith
count_more (t ∷ ss) s = let h = count_more ss s in omega (arith, h)

sections_behind : (first : ℕ) (ss : List UnitSection) (s : UnitSection) (f : File)
    → write_sections first (ss ++ s ∷ []) f ≡ write_section s.unit (first + count_lines ss) s.section (write_sections first ss f)
sections_behind first [] s f = ap (λ k. write_section s.unit k s.section f) (omega arith)
sections_behind first (t ∷ ss) s f =
    let n = length t.section.lines in
    let g = write_section t.unit first t.section f in
    sections_behind (first + n) ss s g ∙ ap (λ k. write_section s.unit k s.section (write_sections (first + n) ss g)) (omega arith)

one_more_section : (ss : List UnitSection) (s : UnitSection) (f : File) → write_sections 0 (ss ++ s ∷ []) f ≡ write_section s.unit (count_lines ss) s.section (write_sections 0 ss f)
one_more_section ss s f = sections_behind 0 ss s f ∙ ap (λ k. write_section s.unit k s.section (write_sections 0 ss f)) (omega arith)

pub trace_more : (c : Contents) (ks : List Kept) (ss : List UnitSection) (old new : TraceWriter) (s : Section) → HasWritten c ks ss old
    → Writes c (write_section s.unit old.next (section_of c s)) old.writer new.writer → new.next ≡ old.next + length s.lines.items → HasWritten c ks (ss ++ unit_section_at c s ∷ []) new
trace_more c ks ss old new s h w after =
    let written = write_section s.unit in
    let section = section_of c s in
    record {
      numbers = w.numbers;
      next = after ∙ ap (λ n. n + length s.lines.items) h.next ∙ ap (λ n. count_lines ss + n) (sym (length-map s.lines.items (line_of c))) ∙ sym (count_more ss (unit_section_at c s));
      file = w.file ∙ ap (λ n. written n section (file_at c old.writer)) h.next ∙ ap (written (count_lines ss) section) h.file ∙ sym (one_more_section ss (unit_section_at c s) (trace_beginning ks));
    }
