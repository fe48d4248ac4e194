-- A row to which it is added that two trees are the same, by what they reduce to.
use Rattle.std.specs.Prelude.{ℕ, ◌≡◌, [], ◌∷◌, ◌++◌, List}
use Rattle.lk_ask.specs.declared.query.Query.TheVariants.{Same}
use Rattle.lk_premises.specs.declared.claims.Claim.{Claim}
use Rattle.lk_trace.specs.declared.rules.Rule.TheVariants.{Conversion}
use Rattle.lk_trace.specs.declared.rules.ConversionRule.TheVariants.{Reduce}
use Rattle.lk_step.specs.declared.step.Row.{Row}
use Rattle.lk_step.specs.declared.step.Step.{Step}
use Rattle.lk_step.specs.Makes.{reduction_claim, equality_claim}

-- a >> l, b >> r, l == r
abbrev pub reduced_claims : ℕ → ℕ → ℕ → ℕ → List Claim
reduced_claims a b l r = reduction_claim a l ∷ reduction_claim b r ∷ equality_claim l r ∷ []

-- it asks whether l and r are the same, and states a == b by that
pub record AddsSame (old new : Row) (a b l r : ℕ) : Type 0 where
  pub step : Step
  pub rule_is : step.rule ≡ Conversion Reduce
  pub left_is : step.left ≡ a
  pub right_is : step.right ≡ b
  pub premises_are : step.premises.items ≡ reduced_claims a b l r
  pub asks_are : new.asks.items ≡ old.asks.items ++ Same l r ∷ []
  pub steps_are : new.steps.items ≡ old.steps.items ++ step ∷ []
