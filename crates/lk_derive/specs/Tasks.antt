-- What waits on the stack of a derivation, by what numbers stand for; the last task is on top.
use Rattle.std.specs.Prelude.{◌≡◌, ℕ, ◌+◌, ◌*◌, ◌⊎◌, List, [], ◌∷◌}
use Rattle.lk_rulebook.specs.Place.{Place}
use Rattle.lk_rulebook.specs.Claims.{Claim}
use Rattle.lk_questions.specs.Query.{Query, AnswerTo}
use Rattle.lk_questions.specs.Answer as outcomes
use Rattle.lk_questions.specs.Answer.{Outcome, plain_answer}
use Rattle.lk_questions.specs.Table as table
use Rattle.lk_step.specs.Steps.{Step}
use Rattle.lk_step.specs.Rows.{IsAnswered, IsClaimed, IsClaim, IsRow}
use Rattle.lk_derive.specs.Derived.{IsDerived}

-- a question is to be derived; the steps of its row are to be written
pub data Task : Type 0 where
  opening : Query → Task
  writing : Query → List Step → Task

-- the question that it is for
abbrev pub asker : Task → Query
asker (opening q) = q
asker (writing q ss) = q

abbrev pub cost_of : {A : Type 0} → Outcome A → ℕ
cost_of (outcomes.answered v c t) = c
cost_of (outcomes.refused r) = 0
cost_of outcomes.spent = 0

-- what the question costs, where it is answered under this budget
abbrev pub cost_under : Place → ℕ → Query → ℕ
cost_under w most q = cost_of (plain_answer table.steps w q most)

-- an opened question leaves its row, and questions that cost less together than it does
abbrev pub weight_of : Place → ℕ → Task → ℕ
weight_of w most (opening q) = 2 * cost_under w most q
weight_of w most (writing q ss) = 1

abbrev pub weight : Place → ℕ → List Task → ℕ
weight w most [] = 0
weight w most (t ∷ ts) = weight_of w most t + weight w most ts

-- a task for the question waits
abbrev pub Waits : List Task → Query → Type 0
Waits [] q = ⊥
Waits (t ∷ ts) q = (asker t ≡ q) ⊎ Waits ts q

-- the question is derived, or a task for it waits
abbrev pub Comes : Place → List Claim → List Task → Query → Type 0
Comes w ps ts q = IsDerived w ps q ⊎ Waits ts q

abbrev pub AllCome : Place → List Claim → List Task → List Query → Type 0
AllCome w ps ts [] = Unit {0}
AllCome w ps ts (q ∷ qs) = Comes w ps ts q × AllCome w ps ts qs

-- by the steps of its row the question is derived, over questions that are derived or wait above it
pub record IsRowAbove (w : Place) (ps : List Claim) (q : Query) (ss : List Step)
    (above : List Task) : Type 0 where
  pub answer : AnswerTo q
  pub cost : ℕ
  pub answered : IsAnswered w q answer cost
  pub claimed : IsClaimed q answer
  pub asks : List Query
  pub row : IsRow w q answer cost asks ss
  pub come : AllCome w ps above asks

-- a task with those above it
abbrev pub IsTask : Place → ℕ → List Claim → Task → List Task → Type 0
IsTask w most ps (opening q) above = IsClaim w q most
IsTask w most ps (writing q ss) above = IsRowAbove w ps q ss above

abbrev pub AreWaiting : Place → ℕ → List Claim → List Task → Type 0
AreWaiting w most ps [] = Unit {0}
AreWaiting w most ps (t ∷ ts) = IsTask w most ps t ts × AreWaiting w most ps ts
