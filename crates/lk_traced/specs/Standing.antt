-- What a reader of a file with derivations stands for.
use Rattle.std.specs.Prelude.{◌≡◌, ℕ, Bool, true, false, List, [], map, All, Vec, Result, Ok, Err, Option, Some, None}
use Rattle.lk_store.specs.Contents.{Contents}
use Rattle.lk_members.specs.Plain.{PlainMember}
use Rattle.lk_rulebook.specs.Units.{as_opaque, Library}
use Rattle.lk_lines.specs.FileNumbers.{NumberView}
use Rattle.lk_lines.specs.Reading.{◌>>=◌}
use Rattle.lk_lines.specs.Says.{Says, Blank, Version, OfItem}
use Rattle.lk_lines.specs.Views.{declaration_tag, declaration_values}
use Rattle.lk_lines.specs.declared.line.DeclarationLine.{DeclarationLine}
use Rattle.lk_lines.specs.declared.line.DeclarationLine.TheVariants as declarations
use Rattle.lk_lines.specs.declared.line.Fault.{Fault}
use Rattle.lk_lines.specs.declared.line.LineError.{LineError}
use Rattle.lk_lines.specs.declared.words.Word.{Word}
use Rattle.lk_lines.specs.declared.tags.EntryTag.{EntryTag}
use Rattle.lk_lines.specs.declared.tags.EntryTag.TheVariants as entry
use Rattle.lk_units.specs.State.{State, valued_of, declaration_said}
use Rattle.lk_units.specs.Held.{IsKnown, Holds, Fails}
use Rattle.lk_units.specs.declared.assembler.Assembler.{Assembler}
use Rattle.lk_units.specs.declared.assembler.TakeError.{TakeError}
use Rattle.lk_book.specs.Courses.{Fails as FailsLine}
use Rattle.lk_book.specs.File.{export_stated}
use Rattle.lk_book.specs.Passing.{Stands}
use Rattle.lk_book.specs.declared.reader.Reader.{Reader}
use Rattle.std.specs.declared.alloc.Global.{Global}
use Rattle.lk_lines.specs.declared.words.Word.TheVariants.{TraceOrder}
use Rattle.lk_book.specs.declared.error.ReadError.{ReadError}
use Rattle.lk_book.specs.declared.error.ReadError.TheVariants as read_errors
use Rattle.lk_trace.specs.declared.traced.FileSection.{FileSection as HeldSection}
use Rattle.lk_traced.specs.Begun.{HoldsSections, AreSectionsKnown}
use Rattle.lk_trace.specs.Files.{section_at, IsFileSectionIn}
use Rattle.lk_traced.specs.Held.{IsDeclared}
use Rattle.lk_traced.specs.Course.{TraceCourse}
use Rattle.lk_written.specs.Outcomes.{FileSection}
use Rattle.lk_traced.specs.Placed.{Behind, Both, behind_taken}
use Rattle.lk_traced.specs.declared.reader.TraceReader.{TraceReader}
use Rattle.lk_traced.specs.declared.sections.Sections.{Sections}

-- what stands behind `#TR` stands for what its lines come to, beside the export before it
abbrev pub HoldsBehind : Option Sections → Contents → State → Option Behind → Type 0
HoldsBehind None c s None = Unit {0}
HoldsBehind None c s (Some b) = ⊥
HoldsBehind (Some x) c s None = ⊥
HoldsBehind (Some x) c s (Some b) = HoldsSections x c b × (export_stated s ≡ Ok b.export)

abbrev pub IsBehindKnown : Option Sections → Contents → Type 0
IsBehindKnown None c = Unit {0}
IsBehindKnown (Some x) c = AreSectionsKnown x c

-- the reader stands for the course
pub record StandsTrace (r : TraceReader) (c : Contents) (t : TraceCourse) : Type 0 where
  pub stands : Stands r.reader c t.course
  pub behind : HoldsBehind r.behind c t.course.state t.behind

-- the numbers that it has are numbers of the store
pub record IsTraceKnown (r : TraceReader) (c : Contents) : Type 0 where
  pub reader_known : IsKnown r.reader.assembler c
  pub behind_known : IsBehindKnown r.behind c

-- behind a line before `#TR` the reader stands for what the line makes of the course, or its fault
-- is told; where the line is `#TR`, with what stands behind it
abbrev pub GoesBefore : Reader → Contents → Result (Option Sections) LineError
    → Result TraceCourse Fault → Type 0
GoesBefore r c (Ok x) said = (t : TraceCourse) × (said ≡ Ok t) × Stands r c t.course
    × HoldsBehind x c t.course.state t.behind
GoesBefore r c (Err e) said = FailsLine e said

-- what a line behind `#TR` says is taken
abbrev pub said_behind : ℕ → State → Behind → Says → Result Both Word
said_behind l s b (OfItem item) = behind_taken l s b item.own item.tag item.values
said_behind l s b says = Ok (record { state = s; behind = b })

-- behind the line assembler and sections hold what it makes of the state and of what stands behind
-- `#TR`, or its fault is told
abbrev pub FollowsBoth : Assembler → Sections → Contents → Result (Unit {0}) TakeError
    → Result Both Word → Type 0
FollowsBoth a x c (Ok u) said =
    (r : Both) × (said ≡ Ok r) × Holds a c r.state × HoldsSections x c r.behind
FollowsBoth a x c (Err e) said = Fails e said

-- only levels and expressions may be defined behind `#TR`
abbrev pub stands_behind : EntryTag → Bool
stands_behind entry.NameText = false
stands_behind entry.NameNumber = false
stands_behind entry.Rule = false
stands_behind t = true

-- behind a line behind `#TR` the reader stands for what the line makes of the course, or its fault
-- is told
abbrev pub GoesBehind : Reader → Sections → Contents → Result (Unit {0}) LineError
    → Result TraceCourse Fault → Type 0
GoesBehind r x c (Ok u) said = GoesBefore r c (Ok (Some x)) said
GoesBehind r x c (Err e) said = FailsLine e said

-- what a line declares, where a definition counts as opaque; its faults are the same
abbrev pub said_alike : {N : Type 0} → State → NumberView N → DeclarationLine N
    → Result PlainMember Word
said_alike s view (declarations.Definition name type value hint parameters) =
    valued_of s (λ e. as_opaque e) (view.value name) (view.value type) (view.value value)
    (view.values parameters.items)
said_alike s view d = declaration_said s (declaration_tag d) (declaration_values view d)

-- the sections of a file, none of which is open at its end
abbrev pub sections_stated : Option Behind → Result (List FileSection) Fault
sections_stated None = Ok []
sections_stated (Some b) = elim b.begun [
  | None ↦ Ok b.sections
  | Some o ↦ Err (record { line = o.number; word = TraceOrder })
]

-- these sections are those of the file, or the line is told that begins the open one
abbrev pub TellsEnded : Contents → Result (Vec HeldSection Global) ReadError
    → Result (List FileSection) Fault → Type 0
TellsEnded c (Ok xs) said = said ≡ Ok (map (section_at c) xs.items)
TellsEnded c (Err read_errors.NoMemory) said = ⊥
TellsEnded c (Err read_errors.ReadFault) said = ⊥
TellsEnded c (Err (read_errors.Fault f)) said = said ≡ Err f

abbrev pub AreEndedIn : Contents → Vec HeldSection Global → Type 0
AreEndedIn c xs = All (IsFileSectionIn c) xs.items

-- each of these sections is of a unit that is a declaration alone
abbrev pub AreEndedOf : Library → Vec HeldSection Global → Type 0
AreEndedOf us xs = All (λ (s : HeldSection). IsDeclared us s.section.unit) xs.items
