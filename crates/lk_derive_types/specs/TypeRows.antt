-- Rows of Infer: one step of typing, which rests on what the questions that are asked claim.
use Rattle.std.specs.Prelude.{◌≡◌, ◌<◌, ℕ, List, IfOk, Result}
use Rattle.lk_tree.specs.Tree.{Tree}
use Rattle.lk_rulebook.specs.Place.{Place}
use Rattle.lk_rulebook.specs.Claims.{Claim}
use Rattle.lk_questions.specs.Query.{Query, infer}
use Rattle.lk_written.specs.Line as written
use Rattle.lk_store.specs.Contents.{Contents, IsTree}
use Rattle.lk_store.specs.declared.memory.NoMemory.{NoMemory}
use Rattle.lk_ask.specs.Looks.{Sight}
use Rattle.lk_trace.specs.declared.rules.TypingRule.{TypingRule}
use Rattle.lk_trace.specs.Meaning.{typing_rule_of, IsTypingRuleIn}
use Rattle.lk_step.specs.declared.step.Row.{Row}
use Rattle.lk_step.specs.Steps.{typing, StepHolds}
use Rattle.lk_step.specs.Rows.{IsAnswered, AreClaims}
use Rattle.lk_step.specs.Meaning.{IsRowIn, IsRowOf}
use Rattle.lk_step.specs.Told.{Leaves}
use Rattle.lk_derive_types.specs.declared.asked.Asked.{Asked}
use Rattle.lk_derive_types.specs.Asked.{AreAsked}

-- T is the answer of Infer(e), which asks these questions, and what they claim is what the step
-- that states it rests on
pub record IsTypedRow (w : Place) (rule : written.TypingRule) (e T : Tree) (asks : List Query)
    (premises : List Claim) : Type 0 where
  pub cost : ℕ
  pub answered : IsAnswered w (infer e) T cost
  pub spent : ℕ
  pub asked : AreClaims w asks premises spent
  pub less : spent < cost
  pub holds : StepHolds w (typing rule e T premises)

-- the same by numbers, of the type of this tree
pub record IsTypedBy (w : Place) (c : Contents) (rule : TypingRule) (left right : ℕ) (asked : Asked)
    (tree : Tree) : Type 0 where
  pub type : Tree
  pub plain_rule : written.TypingRule
  pub queries : List Query
  pub claims : List Claim
  pub rule_in : IsTypingRuleIn c rule
  pub rule_is : typing_rule_of c rule ≡ plain_rule
  pub left_is : IsTree c left tree
  pub right_is : IsTree c right type
  pub asked_are : AreAsked c asked queries claims
  pub row : IsTypedRow w plain_rule tree type queries claims

pub record IsTypeRow (w : Place) (c : Contents) (tree : Tree) (r : Row) : Type 0 where
  pub known : IsRowIn c r
  pub row : IsRowOf w c (infer tree) r

-- Infer(e) is answered
abbrev pub HasType : Place → Tree → Type 0
HasType w e = (T : Tree) × (c : ℕ) × IsAnswered w (infer e) T c

-- numbers stand for what they stood for, and the row is one of the type of this tree
pub record GivesRow {S R B : Type 0} (contents : S → Contents) (rest : S → R)
    (sight : R → Sight B) (old new : S) (tree : Tree) (result : Result Row NoMemory) : Type 0 where
  pub leaves : Leaves contents rest sight old new
  pub row : IfOk result (IsTypeRow (sight (rest old)).basis.place (contents new) tree)
