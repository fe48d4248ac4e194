-- What comes of a unit of a file is that its section holds exactly where it has one that does.
use Rattle.std.proofs.Common.{◌≡◌, ℕ, Bool, true, false, List, Option, Some, None, refl, ap, ◌∙◌}
use Rattle.std.specs.Prelude.{slice_get}
use Rattle.lk_rulebook.specs.Units.{LibraryUnit, of_decl, of_block, Library}
use Rattle.lk_written.specs.Section.{unit_section, section_holds, section_at_fault}
use Rattle.lk_written.specs.Outcomes.{FileSection, Outcome, holds, unwritten, section_of, section_for, by_fault, by_section, by_unit, outcome_of}
use Rattle.lk_written_sound.proofs.Faults.{no_fault, holds_so}

no_fault_of : (s : FileSection) (o : Option ℕ) → by_fault s o ≡ holds → o ≡ None
no_fault_of s None h = refl
no_fault_of s (Some i) h = absurd cc

by_section_held : (us : Library) (n : ℕ) (o : Option FileSection) → by_section us n o ≡ holds
    → (s : FileSection) × (o ≡ Some s) × (section_holds us n (section_of s) ≡ true)
by_section_held us n None h = absurd cc
by_section_held us n (Some s) h =
    (s, refl, holds_so us n (section_of s) (no_fault_of s (section_at_fault us n (section_of s)) h))

pub said_held : (us : Library) (ss : List FileSection) (n : ℕ) → outcome_of us ss n ≡ holds
    → (s : FileSection) × (section_for n ss ≡ Some s) × (section_holds us n (section_of s) ≡ true)
said_held us ss n h = go (slice_get us n) h
  where
    go : (o : Option LibraryUnit)
        → elim o as (λ x. Outcome) [ Some u ↦ by_unit us n ss u | None ↦ unwritten ] ≡ holds
        → (s : FileSection) × (section_for n ss ≡ Some s) × (section_holds us n (section_of s) ≡ true)
    go (Some (of_decl d)) e = by_section_held us n (section_for n ss) e
    go (Some (of_block b rs)) e = absurd cc
    go None e = absurd cc

pub held_said : (us : Library) (ss : List FileSection) (n : ℕ) (s : FileSection)
    → section_for n ss ≡ Some s → section_holds us n (section_of s) ≡ true → outcome_of us ss n ≡ holds
held_said us ss n s own h = go (slice_get us n) h
  where
    said : by_section us n (section_for n ss) ≡ holds
    said = ap (by_section us n) own ∙ ap (by_fault s) (no_fault us n (section_of s) h)

    go : (o : Option LibraryUnit)
        → elim o as (λ x. Bool) [ Some u ↦ unit_section us n u (section_of s) | None ↦ false ] ≡ true
        → elim o as (λ x. Outcome) [ Some u ↦ by_unit us n ss u | None ↦ unwritten ] ≡ holds
    go (Some (of_decl d)) e = said
    go (Some (of_block b rs)) e = absurd cc
    go None e = absurd cc
