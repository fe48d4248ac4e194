-- The texts of the tests: a text without bytes states no unit, one that begins with `#` has a fault,
-- and any other states one block without types.
use Rattle.std.specs.Prelude.{◌≡◌, ℕ, ◌==◌, Bool, true, false, List, [], ◌∷◌, Option, Some, None, Result, Ok, Err}
use Rattle.lk_rulebook.specs.Units.{LibraryUnit, of_block, Library}
use Rattle.lk_store.specs.Contents.{Contents}
use Rattle.lk_env.specs.Units.{unit_at, IsUnitIn}
use Rattle.lk_env.specs.declared.unit.Unit.{Unit as StoredUnit}
use Rattle.lk_lines.specs.declared.words.Word.TheVariants.{UnknownTag}
use Rattle.lk_lines.specs.declared.line.Fault.{Fault}
use Rattle.lk_session.specs.declared.error.TextError.{TextError}
use Rattle.lk_session.specs.declared.error.TextError.TheVariants as text_errors

abbrev pub empty_block : LibraryUnit
empty_block = of_block (record { types = [] }) []

abbrev pub first_fault : Fault
first_fault = record { line = 1; word = UnknownTag }

abbrev pub first_error : TextError
first_error = text_errors.Fault first_fault

-- whether a text that has bytes has a fault
abbrev pub is_faulty : List ℕ → Option Bool
is_faulty [] = None
is_faulty (b ∷ bytes) = Some (b == 35)

abbrev pub stated_by : Option Bool → Result Library Fault
stated_by None = Ok []
stated_by (Some true) = Err first_fault
stated_by (Some false) = Ok (empty_block ∷ [])

abbrev pub sample_stated : List ℕ → Result Library Fault
sample_stated text = stated_by (is_faulty text)

-- by whatever store, it is a block without types
abbrev pub IsEmptyBlock : StoredUnit → Type 0
IsEmptyBlock u = (c : Contents) → IsUnitIn c u × (unit_at c u ≡ empty_block)
