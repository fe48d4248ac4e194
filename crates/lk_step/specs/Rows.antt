-- What an answer of the question table rests on: questions that its row asks, and steps over what
-- their answers claim.
use Rattle.std.specs.Prelude.{ℕ, ◌≡◌, ◌<◌, ◌≤◌, ◌+◌, ◌⊎◌, true, List, [], ◌∷◌, Option, All}
use Rattle.std.specs.Prelude.{Contains}
use Rattle.lk_rulebook.specs.Place.{Place}
use Rattle.lk_rulebook.specs.Claims.{Claim, types, reduces, equals}
use Rattle.lk_questions.specs.Query.{Query, AnswerTo, core, whnf, infer, same}
use Rattle.lk_questions.specs.Answer.{answered, plain_answer}
use Rattle.lk_questions.specs.Sound.{IsAskable}
use Rattle.lk_questions.specs.Table as table
use Rattle.lk_step.specs.Steps.{Step, claim_of, premises_of, is_of_one, StepHolds}

-- the question is answered v at w, at just this cost, under each budget that is enough for it
abbrev pub IsAnswered : Place → (q : Query) → AnswerTo q → ℕ → Type 0
IsAnswered w q v c =
    (b : ℕ) → c ≤ b → (t : Option ℕ) × (plain_answer table.steps w q b ≡ answered v c t)

-- what the answer claims
abbrev pub claim_by : (q : Query) → AnswerTo q → Claim
claim_by (core e) v = reduces e v
claim_by (whnf e) v = reduces e v
claim_by (infer e) v = types e v
claim_by (same a b) v = equals a b

-- it claims that: a Same that is answered no claims nothing
abbrev pub IsClaimed : (q : Query) → AnswerTo q → Type 0
IsClaimed (core e) v = Unit {0}
IsClaimed (whnf e) v = Unit {0}
IsClaimed (infer e) v = Unit {0}
IsClaimed (same a b) v = v ≡ true

-- it may be asked, is answered, claims something, and costs no more than this
pub record IsClaim (w : Place) (q : Query) (most : ℕ) : Type 0 where
  pub askable : IsAskable q
  pub answer : AnswerTo q
  pub cost : ℕ
  pub answered : IsAnswered w q answer cost
  pub claimed : IsClaimed q answer
  pub within : cost ≤ most

-- the questions may be asked and are answered, this is what they claim, one after another, and what
-- they cost together
pub data AreClaims (w : Place) : List Query → List Claim → ℕ → Type 0 where
  no_claim : AreClaims w [] [] 0
  a_claim : {qs : List Query} {cs : List Claim} {n : ℕ} (q : Query) (v : AnswerTo q) (c : ℕ) →
      IsAskable q → IsAnswered w q v c → IsClaimed q v → AreClaims w qs cs n →
      AreClaims w (q ∷ qs) (claim_by q v ∷ cs) (c + n)

-- no line states it, or it is one of these
abbrev pub IsThere : List Claim → Claim → Type 0
IsThere cs c = (is_of_one c ≡ true) ⊎ Contains cs c

-- each step holds, and rests on these claims and on those of the steps before it
abbrev pub AreSteps : Place → List Claim → List Step → Type 0
AreSteps w cs [] = Unit {0}
AreSteps w cs (s ∷ ss) =
    StepHolds w s × All (IsThere cs) (premises_of s) × AreSteps w (claim_of s ∷ cs) ss

-- the claims, and those of the steps
abbrev pub claims_after : List Claim → List Step → List Claim
claims_after cs [] = cs
claims_after cs (s ∷ ss) = claims_after (claim_of s ∷ cs) ss

-- What the answer v of q, of cost c, rests on: it asks these questions, which cost less together,
-- and by these steps over what they claim it is stated.
pub record IsRow (w : Place) (q : Query) (v : AnswerTo q) (c : ℕ) (asks : List Query)
    (steps : List Step) : Type 0 where
  pub claims : List Claim
  pub spent : ℕ
  pub asked : AreClaims w asks claims spent
  pub less : spent < c
  pub steps_hold : AreSteps w claims steps
  pub stated : IsThere (claims_after claims steps) (claim_by q v)
