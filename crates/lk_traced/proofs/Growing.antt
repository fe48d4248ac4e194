-- Sections of a file as the store grows: what they stand for stays the same.
use Rattle.std.proofs.Common.{◌≡◌, ℕ, List, [], ◌∷◌, length, map, refl, ap, ◌∙◌}
use Rattle.std.specs.Prelude.{All, zip, Option, Some, None}
use Rattle.std.proofs.lemmas.List.Elements.{All-weaker, All-head, All-tail}
use Rattle.lk_store.specs.Contents.{Contents, Extends}
use Rattle.lk_trace.specs.declared.sections.Line.{Line}
use Rattle.lk_trace.specs.declared.traced.FileSection.{FileSection}
use Rattle.lk_trace.specs.Meaning.{line_of, IsLineIn}
use Rattle.lk_trace.specs.Files.{file_line, section_at, IsFileSectionIn}
use Rattle.lk_trace.proofs.Steady.{line_same, line_known}
use Rattle.lk_traced.specs.Placed.{OpenSection, Behind}
use Rattle.lk_traced.specs.Begun.{HoldsBegun, IsBegunIn, HoldsOpen, IsOpenIn, HoldsSections, AreSectionsKnown}
use Rattle.lk_traced.specs.declared.sections.BegunSection.{BegunSection}
use Rattle.lk_traced.specs.declared.sections.Sections.{Sections}

module _ (c d : Contents) (x : Extends c d) where
  lines_same : (ns : List ℕ) (ls : List Line) → All (IsLineIn c) ls → map (file_line d) (zip ns ls) ≡ map (file_line c) (zip ns ls)
  lines_same [] ls h = refl
  lines_same (n ∷ ns) [] h = refl
  lines_same (n ∷ ns) (l ∷ ls) h =
      rw (line_same c d x l (All-head (IsLineIn c) l ls h), lines_same ns ls (All-tail (IsLineIn c) l ls h)) refl

  section_same : (s : FileSection) → IsFileSectionIn c s → section_at d s ≡ section_at c s
  section_same s h = rw (lines_same s.numbers.items s.section.lines.items h.section_in) refl

  sections_same : (ss : List FileSection) → All (IsFileSectionIn c) ss → map (section_at d) ss ≡ map (section_at c) ss
  sections_same [] h = refl
  sections_same (s ∷ ss) h =
      rw (section_same s (All-head (IsFileSectionIn c) s ss h), sections_same ss (All-tail (IsFileSectionIn c) s ss h)) refl

  section_known : (s : FileSection) → IsFileSectionIn c s → IsFileSectionIn d s
  section_known s h = record {
    section_in = All-weaker (IsLineIn c) (IsLineIn d) (line_known c d x) s.section.lines.items h.section_in;
    numbered = h.numbered;
  }

  open_holds : (o : Option BegunSection) (p : Option OpenSection) → IsOpenIn c o → HoldsOpen o c p → HoldsOpen o d p
  open_holds None None k h = tt
  open_holds None (Some p) k h = absurd h
  open_holds (Some o) None k h = absurd h
  open_holds (Some o) (Some p) k h = record {
    number = h.number;
    unit = h.unit;
    lines = lines_same o.numbers.items o.lines.items k.lines_in ∙ h.lines;
    places = h.places;
  }

  open_known : (o : Option BegunSection) → IsOpenIn c o → IsOpenIn d o
  open_known None k = tt
  open_known (Some o) k = record {
    lines_in = All-weaker (IsLineIn c) (IsLineIn d) (line_known c d x) o.lines.items k.lines_in;
    numbered = k.numbered;
  }

  pub grown_sections : (s : Sections) (b : Behind) → AreSectionsKnown s c → HoldsSections s c b → HoldsSections s d b
  grown_sections s b k h = record {
    kinds = h.kinds;
    ended = sections_same s.ended.items k.ended_in ∙ h.ended;
    begun = open_holds s.begun b.begun k.begun_in h.begun;
    least = h.least;
    taken = h.taken;
  }

  pub grown_known : (s : Sections) → AreSectionsKnown s c → AreSectionsKnown s d
  grown_known s k = record {
    ended_in = All-weaker (IsFileSectionIn c) (IsFileSectionIn d) section_known s.ended.items k.ended_in;
    begun_in = open_known s.begun k.begun_in;
    ordered = k.ordered;
  }
