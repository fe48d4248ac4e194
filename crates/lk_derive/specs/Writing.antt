-- Steps that are written, one after another.
use Rattle.std.specs.Prelude.{List}
use Rattle.lk_rulebook.specs.Place.{Place}
use Rattle.lk_rulebook.specs.Claims.{Claim}
use Rattle.lk_written.specs.Written.{Keeps}
use Rattle.lk_store.specs.Contents.{Contents}
use Rattle.lk_step.specs.Steps.{Step}
use Rattle.lk_step.specs.Rows.{IsThere, claims_after}
use Rattle.lk_derive.specs.declared.notes.Notes.{Notes}
use Rattle.lk_derive.specs.Notes.{stated_at, IsNotes}

-- what is there among the first is there among the others
abbrev pub AreAmong : List Claim → List Claim → Type 0
AreAmong cs ds = (p : Claim) → IsThere cs p → IsThere ds p

-- the notes go on holding, what was stated stays under its number, and what the steps state is there
pub record WritesAll (w : Place) (c : Contents) (old new : Notes) (ss : List Step) : Type 0 where
  pub notes : IsNotes w c new
  pub keeps : Keeps (stated_at c old) (stated_at c new)
  pub among : AreAmong (claims_after (stated_at c old) ss) (stated_at c new)
