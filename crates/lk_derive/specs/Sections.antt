-- A section whose last line names what its parts claim.
use Rattle.std.specs.Prelude.{◌≡◌, ℕ, [], List, Some}
use Rattle.lk_rulebook.specs.Place.{Place}
use Rattle.lk_rulebook.specs.Claims.{Claim}
use Rattle.lk_written.specs.Section.{claims_by}
use Rattle.lk_store.specs.Contents.{Contents}
use Rattle.lk_trace.specs.declared.sections.Section.{Section}
use Rattle.lk_trace.specs.Meaning.{section_of, IsSectionIn}
use Rattle.lk_step.specs.Steps.{AreNamed}

-- it is the unit's, its lines hold, and the premises of its last line name these claims
pub record IsSectionOf (w : Place) (c : Contents) (number : ℕ) (parts : List Claim) (s : Section)
    : Type 0 where
  pub of : s.unit ≡ number
  pub section_in : IsSectionIn c s
  pub stated : List Claim
  pub holds : claims_by w [] (section_of c s).lines ≡ Some stated
  pub named : AreNamed stated parts s.parts.items
