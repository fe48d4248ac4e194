-- Where lines may stand: those before `#TR`, and those behind it, in a section or between sections.
use Rattle.std.specs.Prelude.{ℕ, ◌==◌, ◌+◌, Bool, false, true, List, [], ◌∷◌, ◌++◌, length}
use Rattle.std.specs.Prelude.{Result, Ok, Err, Option, Some, None, slice_get, nat_lt, if◌then◌else◌}
use Rattle.lk_tree.specs.Tree.{Tree, local}
use Rattle.lk_tree.specs.Mentions.{same_name}
use Rattle.lk_rulebook.specs.Units.{LibraryUnit, of_decl, of_block}
use Rattle.lk_members.specs.Faults.{fault_of}
use Rattle.lk_members.specs.Plain.{PlainMember}
use Rattle.lk_written.specs.Line.{Line}
use Rattle.lk_written.specs.Outcomes.{FileLine, FileSection}
use Rattle.lk_lines.specs.declared.words.Word.{Word}
use Rattle.lk_lines.specs.declared.words.Word.TheVariants.{IndexTaken, TraceOrder, UnknownTag}
use Rattle.lk_lines.specs.declared.tags.EntryTag.{EntryTag}
use Rattle.lk_lines.specs.declared.tags.EntryTag.TheVariants as entry
use Rattle.lk_lines.specs.declared.tags.Tag.{Tag}
use Rattle.lk_lines.specs.declared.tags.Tag.TheVariants.{Entry, Declaration, Budget, Trace, Section, Parts, Local, Derivation}
use Rattle.lk_lines.specs.Reading.{◌>>=◌}
use Rattle.lk_lines.specs.Values.{Value, Number, Numbers}
use Rattle.lk_units.specs.State.{State, known, all_known, put, with_tree, with_budget, counted}
use Rattle.lk_units.specs.State.{entry_added, declaration_said, unless_fault, take_item}
use Rattle.lk_book.specs.File.{Export}
use Rattle.lk_traced.specs.Derived.{line_said}

-- a section that is not ended: the number of its `#AT`, and what its numbers stand for
pub record OpenSection : Type 0 where
  pub number : ℕ
  pub unit : ℕ
  pub lines : List FileLine
  pub places : ℕ → Option ℕ

-- Behind `#TR`: what the lines before it state, the sections that are ended, the one that is not,
-- the least unit that the next may be of, and which numbers lines of derivations have.
pub record Behind : Type 0 where
  pub export : Export
  pub sections : List FileSection
  pub begun : Option OpenSection
  pub least : ℕ
  pub taken : ℕ → Bool

abbrev pub begin_behind : Export → Behind
begin_behind e = record { export = e; sections = []; begun = None; least = 0; taken = λ j. false }

-- the places of a section's lines, by their numbers; none where there is no section
abbrev pub places_of : Option OpenSection → ℕ → Option ℕ
places_of None j = None
places_of (Some o) j = o.places j

-- a line that may not stand where it stands
abbrev pub misplaced : {A B : Type 0} → Result A Word → Result B Word
misplaced said = said >>= λ x. Err TraceOrder

abbrev pub local_tree : State → ℕ → ℕ → Result Tree Word
local_tree s k t = known s.trees t >>= λ type. Ok (local k type)

-- an expression that is a Local, and is counted
abbrev pub local_counted : State → ℕ → ℕ → ℕ → Result State Word
local_counted s own k t = with_tree s own (local_tree s k t) >>= λ u. counted u

-- a line before `#TR`: those of derivations are misplaced, and no number stands for one of them
abbrev pub before_taken : ℕ → State → Option ℕ → Tag → List Value → Result State Word
before_taken l s (Some own) Local (Number k ∷ Number t ∷ []) =
    misplaced (local_counted s own k t)
before_taken l s (Some own) (Derivation f) values = misplaced (line_said s (λ j. None) values)
before_taken l s None Section (Number u ∷ []) = Err TraceOrder
before_taken l s None Parts (Numbers ps ∷ []) = misplaced (all_known {X = ℕ} (λ j. None) ps)
before_taken l s own t values = take_item l s (record { own = own; tag = t; values = values })

-- behind `#TR` only levels and expressions are defined
abbrev pub entry_behind : EntryTag → Result State Word → Result State Word
entry_behind entry.NameText said = misplaced said
entry_behind entry.NameNumber said = misplaced said
entry_behind entry.Rule said = misplaced said
entry_behind t said = said

-- unit u is one that has a section, at least number `least`
abbrev pub has_section : ℕ → ℕ → Option LibraryUnit → Bool
has_section least u (Some (of_decl d)) = if nat_lt u least then false else true
has_section least u (Some (of_block b rs)) = false
has_section least u None = false

-- the section of unit u begins, by line l
abbrev pub begin_section : ℕ → Behind → ℕ → Result Behind Word
begin_section l b u = elim b.begun [
  | Some o ↦ Err TraceOrder
  | None ↦ if has_section b.least u (slice_get b.export.units u) then Ok (record b {
    begun = Some (record { number = l; unit = u; lines = []; places = λ j. None });
    least = u + 1;
  }) else Err TraceOrder
]

-- one more line of the section, of number j
abbrev pub with_derivation : ℕ → Behind → ℕ → Line → Result Behind Word
with_derivation l b j line = elim b.begun [
  | None ↦ Err TraceOrder
  | Some o ↦ Ok (record b {
    begun = Some (record o {
      lines = o.lines ++ record { number = l; line = line } ∷ [];
      places = put o.places j (length o.lines);
    });
    taken = λ q. if q == j then true else b.taken q;
  })
]

-- the section ends by line l, which names these parts
abbrev pub end_section : ℕ → Behind → List ℕ → Result Behind Word
end_section l b js = elim b.begun [
  | None ↦ Err TraceOrder
  | Some o ↦ Ok (record b {
    sections = b.sections
        ++ record { unit = o.unit; lines = o.lines; end = l; parts = js } ∷ [];
    begun = None;
  })
]

-- what a line of a derivation of number j states
abbrev pub derivation_said : State → Behind → ℕ → List Value → Result Line Word
derivation_said s b j values =
    if b.taken j then Err IndexTaken else line_said s (places_of b.begun) values

-- the section with a line of a derivation
abbrev pub derivation_taken : ℕ → State → Behind → ℕ → List Value → Result Behind Word
derivation_taken l s b j values =
    derivation_said s b j values >>= λ line. with_derivation l b j line

-- the section is ended by line l, which names these numbers
abbrev pub parts_taken : ℕ → Behind → List ℕ → Result Behind Word
parts_taken l b ps = all_known (places_of b.begun) ps >>= λ js. end_section l b js

-- what numbers stand for, and the sections
pub record Both : Type 0 where
  pub state : State
  pub behind : Behind

abbrev pub with_state : Behind → Result State Word → Result Both Word
with_state b said = said >>= λ s. Ok (record { state = s; behind = b })

abbrev pub with_behind : State → Result Behind Word → Result Both Word
with_behind s said = said >>= λ b. Ok (record { state = s; behind = b })

-- a line that declares something is looked at beside those before `#TR`
abbrev pub declared_behind : State → Result PlainMember Word → Result State Word
declared_behind s said = said >>= λ x. misplaced (unless_fault (fault_of same_name s.lines x) s)

-- Line l behind `#TR`. No line gives a tag with values of another shape; UnknownTag stands for it.
abbrev pub behind_taken : ℕ → State → Behind → Option ℕ → Tag → List Value → Result Both Word
behind_taken l s b (Some own) (Entry t) values =
    with_state b (entry_behind t (entry_added s own t values))
behind_taken l s b (Some own) Local (Number k ∷ Number t ∷ []) =
    with_state b (with_tree s own (local_tree s k t))
behind_taken l s b (Some own) (Derivation f) values =
    with_behind s (derivation_taken l s b own values)
behind_taken l s b None (Declaration t) values =
    with_state b (declared_behind s (declaration_said s t values))
behind_taken l s b None Budget (Number n ∷ Number steps ∷ []) =
    misplaced (with_budget s n steps)
behind_taken l s b None Trace [] = Err TraceOrder
behind_taken l s b None Section (Number u ∷ []) = with_behind s (begin_section l b u)
behind_taken l s b None Parts (Numbers ps ∷ []) =
    with_behind s (parts_taken l b ps)
behind_taken l s b own t values = Err UnknownTag
