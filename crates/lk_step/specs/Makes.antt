-- What a row is made of.
use Rattle.std.specs.Prelude.{ℕ, ◌≡◌, List, map}
use Rattle.lk_questions.specs.Query as plain
use Rattle.lk_store.specs.Contents.{Contents, tree_at}
use Rattle.lk_ask.specs.Questions.{query_of}
use Rattle.lk_premises.specs.declared.claims.Claim.{Claim}
use Rattle.lk_premises.specs.declared.claims.Relation.TheVariants.{Typing, Reduction, Equality}
use Rattle.lk_step.specs.Steps.{Step}
use Rattle.lk_step.specs.Meaning.{step_at}
use Rattle.lk_step.specs.declared.step.Row.{Row}

abbrev pub typing_claim : ℕ → ℕ → Claim
typing_claim a b = record { relation = Typing; left = a; right = b }

abbrev pub reduction_claim : ℕ → ℕ → Claim
reduction_claim a b = record { relation = Reduction; left = a; right = b }

abbrev pub equality_claim : ℕ → ℕ → Claim
equality_claim a b = record { relation = Equality; left = a; right = b }

-- its questions and its steps are these, by what its numbers stand for
pub record IsMade (c : Contents) (asks : List plain.Query) (steps : List Step) (r : Row)
    : Type 0 where
  pub asks_are : map (query_of (tree_at c)) r.asks.items ≡ asks
  pub steps_are : map (step_at c) r.steps.items ≡ steps
