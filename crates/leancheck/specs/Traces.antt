-- What `trace` tells: a section for each declaration that says yes, and for no other unit.
use Rattle.std.specs.Prelude.{◌≡◌, ◌<◌, ℕ, Bool, true, false, not, ◌&&◌, List, All, map, Option}
use Rattle.std.specs.Prelude.{Some, None}
use Rattle.std.specs.Prelude.{Ok, length, slice_get, if◌then◌else◌}
use Rattle.std.specs.List.{filter, list_any, range_with_len}
use Rattle.lk_rulebook.specs.Units.{LibraryUnit, of_decl, of_block, Library}
use Rattle.lk_questions.specs.Table.{steps as table}
use Rattle.lk_verdict.specs.Verdict.{PlainVerdict, says_yes, says_no, says_steps, plain_verdict}
use Rattle.lk_written.specs.Section.{section_holds}
use Rattle.lk_written.specs.Outcomes.{FileSection, section_of, outcome_of, holds}
use Rattle.lk_book.specs.File.{Export, export_of, budget_of}
use Rattle.lk_trim.specs.Whole.{Kept, kept_of}
use Rattle.lk_sections.specs.Sections.{UnitSection, trace_text}
use Rattle.leancheck.specs.declared.status.Status.{Status}
use Rattle.leancheck.specs.declared.status.Status.TheVariants.{AllYes, SomeNo}

abbrev pub is_declaration : Option LibraryUnit → Bool
is_declaration None = false
is_declaration (Some (of_decl d)) = true
is_declaration (Some (of_block b rs)) = false

abbrev pub is_yes : PlainVerdict → Bool
is_yes says_yes = true
is_yes (says_no r) = false
is_yes says_steps = false

-- whether unit n says yes under this budget
abbrev pub is_accepted : Library → ℕ → ℕ → Bool
is_accepted us budget n = is_yes (plain_verdict table us n budget)

-- whether it has a section: it is a declaration, and says yes
abbrev pub has_section : Library → ℕ → ℕ → Bool
has_section us budget n = is_declaration (slice_get us n) && is_accepted us budget n

-- whether it is a declaration that has none
abbrev pub lacks_section : Library → ℕ → ℕ → Bool
lacks_section us budget n = is_declaration (slice_get us n) && not (is_accepted us budget n)

-- those of the first n units that have a section, each under its own budget
abbrev pub traced_below : Library → (ℕ → ℕ) → ℕ → List ℕ
traced_below us budget n = filter (λ m. has_section us (budget m) m) (range_with_len 0 n)

-- whether one of them is a declaration that has none
abbrev pub lacks_below : Library → (ℕ → ℕ) → ℕ → Bool
lacks_below us budget n = list_any (λ m. lacks_section us (budget m) m) (range_with_len 0 n)

-- these are the sections of the first n units, and each of them holds
pub record AreSections (us : Library) (budget : ℕ → ℕ) (n : ℕ) (ss : List UnitSection) : Type 0
  where
    pub units : map (λ (s : UnitSection). s.unit) ss ≡ traced_below us budget n
    pub hold : All (λ (s : UnitSection). section_holds us s.unit s.section ≡ true) ss

-- a section as it stands in a file, without its numbers there
abbrev pub without_numbers : FileSection → UnitSection
without_numbers s = record { unit = s.unit; section = section_of s }

-- what comes of each of the first n units that has a section is that it holds, whatever the numbers
-- of its lines in a file
abbrev pub AllHold : Library → (ℕ → ℕ) → ℕ → List UnitSection → Type 0
AllHold us budget n ss = (fs : List FileSection) → map without_numbers fs ≡ ss → (m : ℕ) → m < n
    → has_section us (budget m) m ≡ true → outcome_of us fs m ≡ holds

-- all units of an export, each with the line of its own budget
abbrev pub all_kept : Export → List Kept
all_kept e = kept_of e.units e.budgets (range_with_len 0 (length e.units))

-- the status, by whether a declaration lacks its section
abbrev pub status_by : Bool → Status
status_by lacks = if lacks then SomeNo else AllYes

abbrev pub trace_status : Export → ℕ → Status
trace_status e steps = status_by (lacks_below e.units (budget_of e steps) (length e.units))

-- The bytes spell an export. What is told is the text of all its units, and behind it sections in
-- the order of the units: of each declaration whose plain verdict under its budget is yes, and of
-- no other unit. Each of them holds, so that `outcome_of` says so of sections of a file that are
-- these but for the numbers of their lines; that a reader finds them in the text is not said. The
-- status says whether each declaration has one.
pub record IsTracing (steps : ℕ) (bytes : List ℕ) (status : Status) (text : List ℕ) : Type 0 where
  pub export : Export
  pub sections : List UnitSection
  pub spelled : export_of bytes ≡ Ok export
  pub are : AreSections export.units (budget_of export steps) (length export.units) sections
  pub hold : AllHold export.units (budget_of export steps) (length export.units) sections
  pub status_is : status ≡ trace_status export steps
  pub text_is : text ≡ trace_text (all_kept export) sections
