-- Rows of one step.
use Rattle.std.proofs.Common.{ℕ, ◌≡◌, ◌≤◌, List, [], ◌∷◌, map, inr, refl, sym, subst, arith}
use Rattle.std.specs.Prelude.{All, Contains}
use Rattle.std.proofs.lemmas.List.Elements.{All-contains_itself, All-weaker}
use Rattle.lk_rulebook.specs.Place.{Place}
use Rattle.lk_rulebook.specs.Claims.{Claim}
use Rattle.lk_questions.specs.Query.{Query}
use Rattle.lk_store.specs.Contents.{Contents}
use Rattle.lk_step.specs.Steps.{Step, claim_of, premises_of, StepHolds}
use Rattle.lk_step.specs.Rows.{AreClaims, IsThere}
use Rattle.lk_step.specs.Meaning.{step_at}
use Rattle.lk_step.specs.declared.step.Row.{Row}
use Rattle.lk_step.specs.Makes.{IsMade}
use Rattle.lk_step.specs.Tells.{IsBasis, IsBasisOf}

pub all_there : (cs : List Claim) → All (IsThere cs) cs
all_there cs = All-weaker (Contains cs) (IsThere cs) (λ c h. inr h) cs (All-contains_itself cs)

-- a step over just what the questions claim
pub one_step : (w : Place) (s : Step) (asks : List Query) (claims : List Claim) (spent most : ℕ) → AreClaims w asks claims spent → spent ≤ most → StepHolds w s → premises_of s ≡ claims → IsBasis w (claim_of s) most asks (s ∷ [])
one_step w s asks claims spent most asked within holds rests = record {
  claims = claims;
  spent = spent;
  asked = asked;
  within = within;
  steps_hold = (holds, subst (λ cs. All (IsThere claims) cs) (sym rests) (all_there claims), tt);
  stated = inr (0, omega arith, refl);
}

pub basis_made : (w : Place) (c : Contents) (claim : Claim) (most : ℕ) (asks : List Query) (steps : List Step) (r : Row) → IsMade c asks steps r → IsBasis w claim most asks steps → IsBasisOf w c claim most r
basis_made w c claim most asks steps r m b =
    subst (λ qs. IsBasis w claim most qs (map (step_at c) r.steps.items)) (sym m.asks_are)
    (subst (λ ss. IsBasis w claim most asks ss) (sym m.steps_are) b)

pub basis_more : (w : Place) (c : Contents) (claim : Claim) (n most : ℕ) (r : Row) → n ≤ most → IsBasisOf w c claim n r → IsBasisOf w c claim most r
basis_more w c claim n most r h b =
    let within : b.spent ≤ n = b.within in
    record { claims = b.claims; spent = b.spent; asked = b.asked; within = omega (arith, h, within); steps_hold = b.steps_hold; stated = b.stated }
