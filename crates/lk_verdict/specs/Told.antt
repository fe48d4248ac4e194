-- What is said of each unit of a library.
use Rattle.std.specs.Prelude.{ℕ, ◌≡◌, ◌<◌, ◌⊎◌, List, length, Some, slice_get}
use Rattle.lk_tree.specs.declared.rule.Rule.{Rule}
use Rattle.lk_rulebook.specs.Units.{Library}
use Rattle.lk_questions.specs.Table.{steps}
use Rattle.lk_verdict.specs.GoodUnit.{IsGoodUnit}
use Rattle.lk_verdict.specs.Verdict.{PlainVerdict, says_yes, says_no, says_steps, plain_verdict}
use Rattle.lk_verdict.specs.Operations.{GivesOperation}

-- a plain verdict, or that memory was wanting
pub data Verdict : Type 0 where
  accepted : Verdict
  rejected : Rule → Verdict
  out_of_steps : Verdict
  out_of_memory : Verdict

abbrev pub told : PlainVerdict → Verdict
told says_yes = accepted
told (says_no r) = rejected r
told says_steps = out_of_steps

-- of the units before unit n, each that gives an operation on numbers with laws is said yes to
abbrev pub OperationsAccepted : Library → List Verdict → ℕ → Type 0
OperationsAccepted us vs n = (m : ℕ) → m < n → GivesOperation us m → slice_get vs m ≡ Some accepted

-- v is the plain verdict of unit n, by the whole table, or says that memory was wanting
abbrev pub IsPlainVerdict : Library → ℕ → ℕ → Verdict → Type 0
IsPlainVerdict us budget n v = (v ≡ told (plain_verdict steps us n budget)) ⊎ (v ≡ out_of_memory)

-- v is what is said of unit n beside these verdicts: where it says yes, and the operations before it are accepted, the unit is good
pub record IsVerdict (us : Library) (budget : ℕ) (vs : List Verdict) (n : ℕ) (v : Verdict) : Type 0 where
  pub plain : IsPlainVerdict us budget n v
  pub good : v ≡ accepted → OperationsAccepted us vs n → IsGoodUnit us n

-- the verdicts of a library's units, in their order, each under the budget of its own number
pub record AreVerdicts (us : Library) (budget : ℕ → ℕ) (vs : List Verdict) : Type 0 where
  pub as_many : length vs ≡ length us
  pub each : (n : ℕ) (v : Verdict) → slice_get vs n ≡ Some v → IsVerdict us (budget n) vs n v
