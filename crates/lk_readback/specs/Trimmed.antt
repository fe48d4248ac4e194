-- What is said of one declaration with all that it needs, and of the text that states these units.
use Rattle.std.specs.Prelude.{ℕ, ◌≡◌, List, slice_get, Some, Ok}
use Rattle.lk_reach.specs.Axioms.{IsAxiomOf}
use Rattle.lk_questions.specs.Table.{steps}
use Rattle.lk_verdict.specs.Verdict.{plain_verdict}
use Rattle.lk_uses.specs.Listed.{IsClosureList, units_at}
use Rattle.lk_book.specs.File.{Export, export_of}
use Rattle.lk_trim.specs.Whole.{canonical_text, kept_of}
use Rattle.lk_readback.specs.Within.{IsWithinLimits}

-- The text spells just the units of these numbers, in their order. Unit p of it has, under each
-- budget, the plain verdict of the unit that it is, and its axioms are that unit's.
pub record StatesAgain (e : Export) (numbers text : List ℕ) : Type 0 where
  pub export : Export
  pub spelled : export_of text ≡ Ok export
  pub units_are : export.units ≡ units_at e.units numbers
  pub verdicts : (p k budget : ℕ) → slice_get numbers p ≡ Some k
      → plain_verdict steps export.units p budget ≡ plain_verdict steps e.units k budget
  pub axioms : (p k m : ℕ) → slice_get numbers p ≡ Some k → IsAxiomOf e.units k m
      → (q : ℕ) × (slice_get numbers q ≡ Some m) × IsAxiomOf export.units p q
  pub no_other : (p k q : ℕ) → slice_get numbers p ≡ Some k → IsAxiomOf export.units p q
      → (m : ℕ) × (slice_get numbers q ≡ Some m) × IsAxiomOf e.units k m

-- The canonical text of the closure of unit n, each unit with its own budget. Where it keeps the
-- limits on lines, items and input, it states these units again.
pub record IsTrimmed (e : Export) (n : ℕ) (text : List ℕ) : Type 0 where
  pub numbers : List ℕ
  pub closure : IsClosureList e.units n numbers
  pub text_is : text ≡ canonical_text (kept_of e.units e.budgets numbers)
  pub again : IsWithinLimits (kept_of e.units e.budgets numbers) → StatesAgain e numbers text
