-- What a test of Same tells of two trees that are the same, and what it is told.
use Rattle.std.specs.Prelude.{ℕ, ◌≡◌, ◌≤◌, Bool, true, map}
use Rattle.std.specs.Prelude.{List, Option, Some, None}
use Rattle.lk_rulebook.specs.Place.{Place}
use Rattle.lk_rulebook.specs.Claims.{Claim}
use Rattle.lk_questions.specs.Query.{Query}
use Rattle.lk_questions.specs.Pairs.{Line}
use Rattle.lk_questions.specs.Program.{Program}
use Rattle.lk_store.specs.Contents.{Contents, tree_at}
use Rattle.lk_ask.specs.Questions.{query_of}
use Rattle.lk_step.specs.Steps.{Step}
use Rattle.lk_step.specs.Rows.{AreClaims, AreSteps, IsThere, claims_after}
use Rattle.lk_step.specs.Runs.{Runs}
use Rattle.lk_step.specs.Meaning.{step_at}
use Rattle.lk_step.specs.declared.step.Row.{Row}

-- the claim is stated by these steps over what these questions claim, which cost no more together
pub record IsBasis (w : Place) (claim : Claim) (most : ℕ) (asks : List Query) (steps : List Step)
    : Type 0 where
  pub claims : List Claim
  pub spent : ℕ
  pub asked : AreClaims w asks claims spent
  pub within : spent ≤ most
  pub steps_hold : AreSteps w claims steps
  pub stated : IsThere (claims_after claims steps) claim

-- so it is by a row, by what its numbers stand for
abbrev pub IsBasisOf : Place → Contents → Claim → ℕ → Row → Type 0
IsBasisOf w c claim most r =
    IsBasis w claim most (map (query_of (tree_at c)) r.asks.items)
    (map (step_at c) r.steps.items)

-- a row where the test says yes, which it did for so much, and none where it says nothing
abbrev pub TellsOf : Place → Contents → Claim → ℕ → Option Bool → Option Row → Type 0
TellsOf w c claim cost says None = says ≡ None
TellsOf w c claim cost says (Some r) = IsBasisOf w c claim cost r

-- however it was run
abbrev pub Tells : Place → Contents → Line → Claim → Option Row → Type 0
Tells w c line claim r =
    (says : Option Bool) (cost : ℕ) → Runs w line says cost → TellsOf w c claim cost says r

-- however it says yes, the claim is stated by the row
abbrev pub Rests : Place → Contents → Program Bool → Claim → Row → Type 0
Rests w c p claim r = (cost : ℕ) → Runs w p true cost → IsBasisOf w c claim cost r
