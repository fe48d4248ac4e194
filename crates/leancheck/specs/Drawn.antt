-- Verdicts of units by their numbers, as workers draw them.
use Rattle.std.specs.Prelude.{◌≡◌, ◌==◌, ℕ, ◌<◌, List, All, map, fold, length, count_by, slice_get, Some, if◌then◌else◌}
use Rattle.lk_rulebook.specs.Units.{LibraryUnit}
use Rattle.lk_env.specs.Units.{library_of}
use Rattle.lk_env.specs.StoredLibrary.{StoredLibrary}
use Rattle.lk_book.specs.File.{budget_of, export_at}
use Rattle.lk_verdict.specs.declared.verdict.Verdict.{Verdict}
use Rattle.lk_verdict.specs.declared.verdict.Verdict.TheVariants.{Memory}
use Rattle.leancheck.specs.declared.order.UnitVerdict.{UnitVerdict}
use Rattle.leancheck.specs.Held.{IsPlain}
use Rattle.leancheck.specs.Rows.{row_verdict}

-- the plain verdict of unit n under so many steps, or memory in its place
abbrev pub IsPlainUnder : StoredLibrary → ℕ → ℕ → Verdict → Type 0
IsPlainUnder l steps n v = (u : LibraryUnit) → slice_get (library_of l) n ≡ Some u
    → IsPlain (row_verdict (library_of l) steps n u) v

-- the budget of unit n in a run that gives each unit so many steps
abbrev pub unit_budget : StoredLibrary → ℕ → ℕ → ℕ
unit_budget l steps n = budget_of (export_at l) steps n

-- the plain verdict of unit n under its budget, or memory in its place
abbrev pub IsRight : StoredLibrary → ℕ → ℕ → Verdict → Type 0
IsRight l steps n v = IsPlainUnder l (unit_budget l steps n) n v

-- it is the verdict of a unit, and right
abbrev pub IsRightOne : StoredLibrary → ℕ → UnitVerdict → Type 0
IsRightOne l steps a = (a.number < length l.units) × IsRight l steps a.number a.verdict

abbrev pub AreRight : StoredLibrary → ℕ → List UnitVerdict → Type 0
AreRight l steps answers = All (IsRightOne l steps) answers

abbrev pub numbers : List UnitVerdict → List ℕ
numbers answers = map (λ a. a.number) answers

-- how often a number stands among the answers
abbrev pub stands : ℕ → List UnitVerdict → ℕ
stands n answers = count_by (λ y. y == n) (numbers answers)

-- the last answer that was given for a number, and memory if there is none
abbrev pub given : ℕ → List UnitVerdict → Verdict
given n answers = fold (λ v a. if a.number == n then a.verdict else v) Memory answers
