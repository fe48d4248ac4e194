-- One more line of a section.
use Rattle.std.proofs.Common.{◌≡◌, ℕ, ◌+◌, List, [], ◌∷◌, ◌++◌, map, refl, ap, sym, ◌∙◌}
use Rattle.lk_store.specs.Contents.{Contents}
use Rattle.lk_trace.specs.declared.rules.Rule.{Rule}
use Rattle.lk_trace.specs.declared.rules.Rule.TheVariants.{Typing, Reduction, Conversion}
use Rattle.lk_trace.specs.declared.sections.Line.{Line}
use Rattle.lk_trace.specs.Meaning.{line_by, line_of}
use Rattle.lk_trim.specs.Written.{File, fields}
use Rattle.lk_trim.proofs.Appending.{fields_one}
use Rattle.lk_sections.specs.Rules.{LineFields, line_fields}
use Rattle.lk_sections.specs.Lines.{numbers_from, write_line, write_lines}
use Rattle.lk_sections.specs.Stored.{fields_at}

-- premises are written one after another
abbrev pub premises_text : ℕ → List ℕ → List ℕ
premises_text first ps = fields (numbers_from first ps)

pub premises_one : (first p : ℕ) (ps : List ℕ) → fields (numbers_from first (p ∷ ps)) ≡ fields (numbers_from first (p ∷ [])) ++ fields (numbers_from first ps)
premises_one first p ps = fields_one (first + p) (numbers_from first ps)

-- the fields of a line are those of its trees in the store
pub fields_are : (c : Contents) (l : Line) → line_fields (line_of c l) ≡ fields_at c l
fields_are c l = go l.rule
  where
    fields_by : Rule → LineFields
    fields_by r = line_fields (line_by c r l)

    go : (r : Rule) → line_fields (line_by c r l) ≡ record (fields_at c l) { rule = (fields_by r).rule; extra = (fields_by r).extra }
    go (Typing r) = refl
    go (Reduction r) = refl
    go (Conversion r) = refl

-- the first of the lines that are left is written
pub lines_more : (c : Contents) (first n next : ℕ) (l : Line) (rest more : List Line) (f g h : File) → rest ≡ l ∷ more → next ≡ n + 1 → g ≡ write_line first n (line_of c l) f
    → write_lines first n (map (line_of c) rest) f ≡ h → write_lines first next (map (line_of c) more) g ≡ h
lines_more c first n next l rest more f g h cut after is r =
    ap (λ k. write_lines first k (map (line_of c) more) g) after
    ∙ ap (write_lines first (n + 1) (map (line_of c) more)) is
    ∙ ap (λ ls. write_lines first n (map (line_of c) ls) f) (sym cut) ∙ r
