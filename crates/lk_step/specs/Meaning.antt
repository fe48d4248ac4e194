-- The steps and rows that those by the numbers of a store stand for.
use Rattle.std.specs.Prelude.{ℕ, ◌<◌, length, map, All}
use Rattle.lk_rulebook.specs.Place.{Place}
use Rattle.lk_questions.specs.Query as plain
use Rattle.lk_questions.specs.Query.{AnswerTo}
use Rattle.lk_store.specs.Contents.{Contents, tree_at}
use Rattle.lk_ask.specs.Questions.{query_of, IsKnownQuery}
use Rattle.lk_trace.specs.declared.rules.Rule.{Rule}
use Rattle.lk_trace.specs.declared.rules.Rule.TheVariants.{Typing, Reduction, Conversion}
use Rattle.lk_trace.specs.Meaning.{typing_rule_of, reduction_rule_of, conversion_rule_of, IsRuleIn}
use Rattle.lk_premises.specs.Claims.{claims_at, AreClaimsIn}
use Rattle.lk_step.specs.declared.step.Step.{Step}
use Rattle.lk_step.specs.declared.step.Row.{Row}
use Rattle.lk_step.specs.Steps as steps
use Rattle.lk_step.specs.Rows.{IsAnswered, IsClaimed, IsRow}

-- the step of a rule, two trees and premises
abbrev pub step_by : Contents → Rule → Step → steps.Step
step_by c (Typing r) s =
    steps.typing (typing_rule_of c r) (tree_at c s.left) (tree_at c s.right)
    (claims_at c s.premises.items)
step_by c (Reduction r) s =
    steps.reduction (reduction_rule_of r) (tree_at c s.left) (tree_at c s.right)
    (claims_at c s.premises.items)
step_by c (Conversion r) s =
    steps.equality (conversion_rule_of c r) (tree_at c s.left) (tree_at c s.right)
    (claims_at c s.premises.items)

abbrev pub step_at : Contents → Step → steps.Step
step_at c s = step_by c s.rule s

-- its trees are trees of the store
pub record IsStepIn (c : Contents) (s : Step) : Type 0 where
  pub rule_in : IsRuleIn c s.rule
  pub left_in : s.left < length c.trees
  pub right_in : s.right < length c.trees
  pub premises_in : AreClaimsIn c s.premises.items

pub record IsRowIn (c : Contents) (r : Row) : Type 0 where
  pub asks_in : All (IsKnownQuery (length c.trees)) r.asks.items
  pub steps_in : All (IsStepIn c) r.steps.items

-- what the answer of the question rests on, at this place, by what the numbers stand for
pub record IsRowOf (w : Place) (c : Contents) (q : plain.Query) (r : Row) : Type 0 where
  pub answer : AnswerTo q
  pub cost : ℕ
  pub answered : IsAnswered w q answer cost
  pub claimed : IsClaimed q answer
  pub row : IsRow w q answer cost (map (query_of (tree_at c)) r.asks.items)
      (map (step_at c) r.steps.items)
