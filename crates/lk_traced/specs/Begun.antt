-- What the sections that are read stand for.
use Rattle.std.specs.Prelude.{◌≡◌, ◌<◌, ◌++◌, ℕ, nat_eq, Bool, true, false, List, [], ◌∷◌, map}
use Rattle.std.specs.Prelude.{zip, length, slice_get, All, Result, Ok, Err, Option, Some, None}
use Rattle.std.specs.HashSet.{contains}
use Rattle.lk_rulebook.specs.Units.{LibraryUnit, of_decl, of_block}
use Rattle.lk_store.specs.Contents.{Contents}
use Rattle.lk_written.specs.Line.{Line as PlainLine}
use Rattle.lk_trace.specs.declared.sections.Line.{Line}
use Rattle.lk_trace.specs.Meaning.{IsLineIn}
use Rattle.lk_lines.specs.declared.words.Word.{Word}
use Rattle.lk_units.specs.Numbering.{entry}
use Rattle.lk_units.specs.State.{put}
use Rattle.lk_units.specs.Held.{Fails}
use Rattle.lk_units.specs.declared.assembler.TakeError.{TakeError}
use Rattle.lk_trace.specs.declared.traced.FileSection.{FileSection as HeldSection}
use Rattle.lk_trace.specs.Files.{file_line, section_at, IsFileSectionIn, AreRising}
use Rattle.lk_written.specs.Outcomes.{FileLine, FileSection}
use Rattle.lk_traced.specs.Placed.{OpenSection, Behind}
use Rattle.lk_traced.specs.declared.sections.BegunSection.{BegunSection}
use Rattle.lk_traced.specs.declared.sections.Sections.{Sections}

-- the unit is a declaration alone
abbrev pub is_declaration : LibraryUnit → Bool
is_declaration (of_decl d) = true
is_declaration (of_block b rs) = false

-- lines, each with the number of the file's line that holds it
abbrev pub lines_held : Contents → List ℕ → List Line → List FileLine
lines_held c ns ls = map (file_line c) (zip ns ls)

-- the section with one more line, held by line l under the number j
abbrev pub one_more : ℕ → ℕ → PlainLine → OpenSection → OpenSection
one_more l j line o = record o {
  lines = o.lines ++ record { number = l; line = line } ∷ [];
  places = put o.places j (length o.lines);
}

-- the section, ended by line l with these parts
abbrev pub ended_by : ℕ → List ℕ → OpenSection → FileSection
ended_by l js o = record { unit = o.unit; lines = o.lines; end = l; parts = js }

-- the section that is begun stands for one of the definitions
pub record HoldsBegun (o : BegunSection) (c : Contents) (p : OpenSection) : Type 0 where
  pub number : o.number ≡ p.number
  pub unit : o.unit ≡ p.unit
  pub lines : lines_held c o.numbers.items o.lines.items ≡ p.lines
  pub places : (q : ℕ) → entry o.places q ≡ p.places q

-- its trees are trees of the store, and each of its lines has a number
pub record IsBegunIn (c : Contents) (o : BegunSection) : Type 0 where
  pub lines_in : All (IsLineIn c) o.lines.items
  pub numbered : length o.numbers.items ≡ length o.lines.items

abbrev pub HoldsOpen : Option BegunSection → Contents → Option OpenSection → Type 0
HoldsOpen None c None = Unit {0}
HoldsOpen None c (Some p) = ⊥
HoldsOpen (Some o) c None = ⊥
HoldsOpen (Some o) c (Some p) = HoldsBegun o c p

abbrev pub IsOpenIn : Contents → Option BegunSection → Type 0
IsOpenIn c None = Unit {0}
IsOpenIn c (Some o) = IsBegunIn c o

-- the sections stand for what the lines behind `#TR` come to
pub record HoldsSections (s : Sections) (c : Contents) (b : Behind) : Type 0 where
  pub kinds : s.kinds.items ≡ map is_declaration b.export.units
  pub ended : map (section_at c) s.ended.items ≡ b.sections
  pub begun : HoldsOpen s.begun c b.begun
  pub least : s.least ≡ b.least
  pub taken : (q : ℕ) → contains nat_eq s.taken q ≡ b.taken q

-- The units of sections rise and are below a number, and each is a declaration alone. The list says
-- which units are.
pub record AreOrdered (kinds : List Bool) (least : ℕ) (ss : List HeldSection) : Type 0 where
  pub rising : AreRising ss
  pub below : All (λ (s : HeldSection). s.section.unit < least) ss
  pub alone : All (λ (s : HeldSection). slice_get kinds s.section.unit ≡ Some true) ss

-- the same where a section is begun behind them
pub record IsLast (kinds : List Bool) (least : ℕ) (ss : List HeldSection) (o : BegunSection)
    : Type 0 where
  pub ordered : AreOrdered kinds o.unit ss
  pub below : o.unit < least
  pub alone : slice_get kinds o.unit ≡ Some true

abbrev pub AreOrderedWith : List Bool → ℕ → List HeldSection → Option BegunSection → Type 0
AreOrderedWith kinds least ss None = AreOrdered kinds least ss
AreOrderedWith kinds least ss (Some o) = IsLast kinds least ss o

-- Their trees are trees of the store, and each of their lines has a number. Their units rise.
pub record AreSectionsKnown (s : Sections) (c : Contents) : Type 0 where
  pub ended_in : All (IsFileSectionIn c) s.ended.items
  pub begun_in : IsOpenIn c s.begun
  pub ordered : AreOrderedWith s.kinds.items s.least s.ended.items s.begun

-- behind the line the sections stand for what it makes of them, or its fault is told
abbrev pub FollowsSections : Sections → Contents → Result (Unit {0}) TakeError
    → Result Behind Word → Type 0
FollowsSections s c (Ok u) said = (b : Behind) × (said ≡ Ok b) × HoldsSections s c b
FollowsSections s c (Err e) said = Fails e said
