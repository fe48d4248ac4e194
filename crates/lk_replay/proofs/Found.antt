-- What comes of a unit that is there.
use Rattle.std.proofs.Common.{◌≡◌, ℕ, List, length, Option, Some, None, refl, ap, ◌∙◌}
use Rattle.std.specs.Prelude.{slice_get}
use Rattle.lk_rulebook.specs.Place.{Block, BlockRecursor}
use Rattle.lk_rulebook.specs.Units.{Decl, LibraryUnit, of_decl, of_block, Library}
use Rattle.lk_written.specs.Section.{Section, unit_at_fault, section_at_fault}
use Rattle.lk_written.specs.Outcomes.{FileSection, Outcome, block, unwritten, section_of, section_for, by_fault, by_section, by_unit, outcome_of}
use Rattle.lk_replay.specs.Outcomes.{outcome_by}

module _ (us : Library) (sections : List FileSection) (n : ℕ) (u : LibraryUnit) (there : slice_get us n ≡ Some u) where
  whole : outcome_of us sections n ≡ by_unit us n sections u
  whole = ap (λ o. elim o as (λ x. Outcome) [ Some v ↦ by_unit us n sections v | None ↦ unwritten ]) there

  fault_is : (s : Section) → section_at_fault us n s ≡ unit_at_fault us n u s
  fault_is s = ap (λ o. elim o as (λ x. Option ℕ) [ Some v ↦ unit_at_fault us n v s | None ↦ Some (length s.lines) ]) there

  each : (o : Option FileSection) → by_section us n o ≡ outcome_by us n u o
  each None = refl
  each (Some s) = ap (by_fault s) (fault_is (section_of s))

  pub declared : (d : Decl) → u ≡ of_decl d → outcome_of us sections n ≡ outcome_by us n u (section_for n sections)
  declared d is = whole ∙ ap (by_unit us n sections) is ∙ each (section_for n sections)

  pub blocked : (b : Block) (rs : List BlockRecursor) → u ≡ of_block b rs → outcome_of us sections n ≡ block
  blocked b rs is = whole ∙ ap (by_unit us n sections) is
