-- What is written, by the numbers of a store.
use Rattle.std.specs.Prelude.{◌≡◌, ◌<◌, List, length}
use Rattle.lk_store.specs.Contents.{Contents, tree_at}
use Rattle.lk_trace.specs.declared.sections.Line.{Line}
use Rattle.lk_trace.specs.declared.sections.Section.{Section}
use Rattle.lk_trace.specs.Meaning.{line_of, section_of}
use Rattle.lk_trim.specs.Whole.{Kept}
use Rattle.lk_trim.specs.Stored.{file_at, AreNumbersIn}
use Rattle.lk_sections.specs.declared.extra.StoredExtra.{StoredExtra}
use Rattle.lk_sections.specs.declared.extra.StoredExtra.TheVariants as stored
use Rattle.lk_sections.specs.declared.trace.TraceWriter.{TraceWriter}
use Rattle.lk_sections.specs.Rules.{Extra, bare, with_local, with_place, LineFields, line_fields}
use Rattle.lk_sections.specs.Sections.{UnitSection, write_sections, count_lines, trace_beginning}

abbrev pub extra_at : Contents → StoredExtra → Extra
extra_at c stored.Nothing = bare
extra_at c (stored.Local x) = with_local (tree_at c x)
extra_at c (stored.Place i) = with_place i

-- its Local is a tree of the store
abbrev pub IsExtraIn : Contents → StoredExtra → Type 0
IsExtraIn c (stored.Local x) = x < length c.trees
IsExtraIn c _ = Unit {0}

-- the fields of a line, with its trees by their numbers
abbrev pub fields_at : Contents → Line → LineFields
fields_at c l = record {
  rule = (line_fields (line_of c l)).rule;
  extra = (line_fields (line_of c l)).extra;
  left = tree_at c l.left;
  right = tree_at c l.right;
  premises = l.premises.items;
}

abbrev pub unit_section_at : Contents → Section → UnitSection
unit_section_at c s = record { unit = s.unit; section = section_of c s }

-- the canonical text of these units and these sections are written
pub record HasWritten (c : Contents) (ks : List Kept) (ss : List UnitSection) (t : TraceWriter)
    : Type 0 where
  pub numbers : AreNumbersIn c t.writer.numbers
  pub next : t.next ≡ count_lines ss
  pub file : file_at c t.writer ≡ write_sections 0 ss (trace_beginning ks)
