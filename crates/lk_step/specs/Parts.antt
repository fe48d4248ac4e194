-- Rows under way: what was asked so far, the steps so far, and what is stated by them.
use Rattle.std.specs.Prelude.{ℕ, ◌≡◌, ◌<◌, ◌≤◌, ◌+◌, Bool, true, List, [], ◌∷◌, map, if◌then◌else◌}
use Rattle.lk_tree.specs.Tree.{Tree}
use Rattle.lk_tree.specs.WellFormed.{IsWellFormed}
use Rattle.lk_rulebook.specs.Place.{Place}
use Rattle.lk_rulebook.specs.WellStated.{WellStated}
use Rattle.lk_rulebook.specs.Claims.{Claim, types, reduces, equals}
use Rattle.lk_questions.specs.Query as plain
use Rattle.lk_questions.specs.Query.{core, whnf, infer, same}
use Rattle.lk_questions.specs.Steps.{is_same_tree}
use Rattle.lk_written.specs.Line.{ReductionRule}
use Rattle.lk_store.specs.Contents.{Contents, tree_at}
use Rattle.lk_ask.specs.Questions.{query_of}
use Rattle.lk_step.specs.declared.step.Row.{Row}
use Rattle.lk_step.specs.Steps.{Step, reduction, StepHolds}
use Rattle.lk_step.specs.Rows.{IsAnswered, IsThere, AreClaims, AreSteps, claims_after}
use Rattle.lk_step.specs.Meaning.{step_at, IsRowIn, IsRowOf}

-- each of these is there
abbrev pub AreThere : List Claim → List Claim → Type 0
AreThere cs [] = Unit {0}
AreThere cs (x ∷ xs) = IsThere cs x × AreThere cs xs

-- the questions, which cost no more than this together, are asked, and by the steps over what they
-- claim this is stated
pub record IsPart (w : Place) (asks : List plain.Query) (steps : List Step) (stated : List Claim)
    (spent : ℕ) : Type 0 where
  pub claims : List Claim
  pub cost : ℕ
  pub asked : AreClaims w asks claims cost
  pub within : cost ≤ spent
  pub steps_hold : AreSteps w claims steps
  pub there : AreThere (claims_after claims steps) stated

-- the same of a row by numbers
pub record IsPartIn (w : Place) (c : Contents) (r : Row) (stated : List Claim) (spent : ℕ)
    : Type 0 where
  pub known : IsRowIn c r
  pub part : IsPart w (map (query_of (tree_at c)) r.asks.items)
      (map (step_at c) r.steps.items) stated spent

-- the row states one thing more, for which it asked at this cost
abbrev pub Asks : Place → Contents → Contents → Row → Row → Claim → ℕ → Type 0
Asks w c d old new claim cost =
    (stated : List Claim) (spent : ℕ) → IsPartIn w c old stated spent
    → IsPartIn w d new (claim ∷ stated) (spent + cost)

-- the row states one thing more, for which it asked nothing
abbrev pub States : Place → Contents → Row → Row → List Claim → Claim → Type 0
States w c old new premises claim =
    (stated : List Claim) (spent : ℕ) → AreThere stated premises → IsPartIn w c old stated spent
    → IsPartIn w c new (claim ∷ stated) spent

-- it is whole
pub record IsWhole (w : Place) (c : Contents) (q : plain.Query) (r : Row) : Type 0 where
  pub known : IsRowIn c r
  pub row : IsRowOf w c q r

-- nothing is in it
pub record IsEmpty (r : Row) : Type 0 where
  pub asks : r.asks.items ≡ []
  pub steps : r.steps.items ≡ []

-- the weak head form without unfolding of e is v, and the row states it
pub record AsksCore (w : Place) (c d : Contents) (old new : Row) (e v : Tree) : Type 0 where
  pub cost : ℕ
  pub answered : IsAnswered w (core e) v cost
  pub asks : IsWellFormed e → Asks w c d old new (reduces e v) cost

-- the same of the weak head form
pub record AsksForm (w : Place) (c d : Contents) (old new : Row) (e v : Tree) : Type 0 where
  pub cost : ℕ
  pub answered : IsAnswered w (whnf e) v cost
  pub asks : IsWellFormed e → Asks w c d old new (reduces e v) cost

-- the type of e is T, and the row states it
pub record AsksType (w : Place) (c d : Contents) (old new : Row) (e T : Tree) : Type 0 where
  pub cost : ℕ
  pub answered : IsAnswered w (infer e) T cost
  pub asks : IsWellFormed e → Asks w c d old new (types e T) cost

-- where a and b are the same, the row states it
pub record AsksSame (c : Contents) (old new : Row) (a b : Tree) : Type 0 where
  pub asks : (w : Place) (cost : ℕ) → IsWellFormed a → IsWellFormed b →
      IsAnswered w (same a b) true cost → Asks w c c old new (equals a b) cost

-- no step is needed for x >> z from x >> y and y >> z
abbrev pub are_linked : Tree → Tree → Tree → Bool
are_linked x y z =
    if is_same_tree x y then true else (if is_same_tree y z then true else is_same_tree x z)

-- from x >> y and y >> z the row states x >> z
pub record Chains (c : Contents) (old new : Row) (x y z : Tree) : Type 0 where
  pub states : (w : Place) → IsWellFormed x → IsWellFormed z →
      States w c old new (reduces x y ∷ reduces y z ∷ []) (reduces x z)

-- the row stated e >> r, and states e >> v for the weak head form v of r without unfolding
pub record FollowsCore (w : Place) (c d : Contents) (old new : Row) (e r : Tree) : Type 0 where
  pub value : Tree
  pub cost : ℕ
  pub answered : IsAnswered w (core r) value cost
  pub goes : IsWellFormed e → IsWellFormed r → IsWellFormed value →
      (stated : List Claim) (spent : ℕ) → IsThere stated (reduces e r) →
      IsPartIn w c old stated spent → IsPartIn w d new (reduces e value ∷ []) (spent + cost)

-- the same for the weak head form
pub record FollowsForm (w : Place) (c d : Contents) (old new : Row) (e r : Tree) : Type 0 where
  pub value : Tree
  pub cost : ℕ
  pub answered : IsAnswered w (whnf r) value cost
  pub goes : IsWellFormed e → IsWellFormed r → IsWellFormed value →
      (stated : List Claim) (spent : ℕ) → IsThere stated (reduces e r) →
      IsPartIn w c old stated spent → IsPartIn w d new (reduces e value ∷ []) (spent + cost)

-- Core of e costs more than Core of r, which it is
pub record IsNext (w : Place) (e r : Tree) : Type 0 where
  pub value : Tree
  pub cost : ℕ
  pub more : ℕ
  pub answered : IsAnswered w (core e) value more
  pub next : IsAnswered w (core r) value cost
  pub less : cost < more

-- where e is Core of r by a step of this rule, which rests on nothing, the row is whole
pub record StepGoes (w : Place) (d : Contents) (old new : Row) (rule : ReductionRule) (e r : Tree)
    : Type 0 where
  pub whole : IsEmpty old → WellStated w → IsWellFormed e → IsWellFormed r →
      StepHolds w (reduction rule e r []) → IsNext w e r → IsWhole w d (core e) new
