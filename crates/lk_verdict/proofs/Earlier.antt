-- A unit's verdict, and whether it is good, rest on the units up to it alone.
use Rattle.std.proofs.Common.{ℕ, suc, ◌≡◌, ◌&&◌, [], ◌∷◌, take, Option, Some, None, refl, sym, ap, ◌∙◌, subst, if◌then◌else◌}
use Rattle.std.specs.Prelude.{slice_get}
use Rattle.lk_tree.specs.declared.rule.Rule.TheVariants.{DuplicateName}
use Rattle.lk_rulebook.specs.Place.{Place}
use Rattle.lk_rulebook.specs.Units.{LibraryUnit, of_decl, of_block, Library, Members, members_of, given_by, first_of_two, at_partial, first_giving, place_by}
use Rattle.lk_rulebook.specs.Scan.{AreNew, is_none, are_new, own_scan, scan_of}
use Rattle.lk_questions.specs.Answer.{outcome_of, plain_answer}
use Rattle.lk_questions.specs.Program.{Table}
use Rattle.lk_questions.specs.Declarations.{unit_steps}
use Rattle.lk_rulebook.specs.Derived.{DeclDerived}
use Rattle.lk_inductive.specs.Whole.{BlockDerived}
use Rattle.lk_inductive.specs.NestedRelation.{NestedDerived}
use Rattle.lk_inductive.specs.NestedTask.{whole_task}
use Rattle.lk_inductive.specs.Task.{run_task}
use Rattle.lk_verdict.specs.GoodUnit.{UnitDerived, declaration, block, nested, IsGoodUnit}
use Rattle.lk_verdict.specs.Verdict.{PlainVerdict, says_no, says_steps, verdict_by, questions_of, verdict_of, plain_verdict}

-- the place of unit n after these units
abbrev after_units : ℕ → Library → Members → Place
after_units n xs partial = place_by n (λ c. first_of_two (at_partial n (given_by partial c)) (first_giving 0 xs c))

same_new : (us vs : Library) (n : ℕ) → take n us ≡ take n vs → (ms : Members) → are_new us n ms ≡ are_new vs n ms
same_new us vs n e [] = refl
same_new us vs n e (m ∷ ms) =
    ap (λ xs. (is_none (first_giving 0 xs m.0) && is_none (given_by ms m.0)) && are_new us n ms) e
    ∙ ap (λ b. (is_none (first_giving 0 (take n vs) m.0) && is_none (given_by ms m.0)) && b) (same_new us vs n e ms)

new_too : (us vs : Library) (n : ℕ) → take n us ≡ take n vs → (ms : Members) → AreNew us n ms → AreNew vs n ms
new_too us vs n e [] h = tt
new_too us vs n e (m ∷ ms) h = (subst (λ xs. first_giving 0 xs m.0 ≡ None) e h.0, h.1, new_too us vs n e ms h.2)

derived_too : (us vs : Library) (n : ℕ) (u : LibraryUnit) → take n us ≡ take n vs → UnitDerived us n u → UnitDerived vs n u
derived_too us vs n u e (declaration {d = d} g) = declaration (subst (λ xs. DeclDerived (after_units n xs []) d) e g)
derived_too us vs n u e (block {b = b} {rs = rs} {s = s} g) = block (subst (λ xs. BlockDerived (after_units n xs) b rs s) e g)
derived_too us vs n u e (nested {b = b} {rs = rs} {s = s} g) = nested (subst (λ xs. NestedDerived (after_units n xs) b rs s) e g)

pub good_too : (us vs : Library) (n : ℕ) → take n us ≡ take n vs → slice_get us n ≡ slice_get vs n → IsGoodUnit us n → IsGoodUnit vs n
good_too us vs n e f g = record {
  unit = g.unit;
  given = sym f ∙ g.given;
  scanned = record { names = new_too us vs n e (members_of g.unit) g.scanned.names; levels = g.scanned.levels; trees = g.scanned.trees };
  clear = g.clear;
  derived = derived_too us vs n g.unit e g.derived;
}

same_questions : (table : Table) (us vs : Library) (n : ℕ) → take n us ≡ take n vs → (u : LibraryUnit) (budget : ℕ) → questions_of table us n u budget ≡ questions_of table vs n u budget
same_questions table us vs n e (of_decl d) budget = ap (λ xs. verdict_by (outcome_of (after_units n xs []) (plain_answer table (after_units n xs [])) budget (unit_steps d))) e
same_questions table us vs n e (of_block b rs) budget = ap (λ xs. verdict_by (run_task (after_units n xs) (λ w. plain_answer table w) [] budget (whole_task (suc budget) b rs))) e

same_of : (table : Table) (us vs : Library) (n : ℕ) → take n us ≡ take n vs → (u : LibraryUnit) (budget : ℕ) → verdict_of table us n u budget ≡ verdict_of table vs n u budget
same_of table us vs n e u budget =
    ap (λ b. elim (if b then own_scan u else Some DuplicateName) as (λ y. PlainVerdict) [ Some r ↦ says_no r | None ↦ questions_of table us n u budget ]) (same_new us vs n e (members_of u))
    ∙ ap (λ v. elim (scan_of vs n u) as (λ y. PlainVerdict) [ Some r ↦ says_no r | None ↦ v ]) (same_questions table us vs n e u budget)

same_at : (table : Table) (us vs : Library) (n budget : ℕ) → take n us ≡ take n vs → (o : Option LibraryUnit) →
    elim o as (λ y. PlainVerdict) [ Some u ↦ verdict_of table us n u budget | None ↦ says_steps ] ≡ elim o as (λ y. PlainVerdict) [ Some u ↦ verdict_of table vs n u budget | None ↦ says_steps ]
same_at table us vs n budget e (Some u) = same_of table us vs n e u budget
same_at table us vs n budget e None = refl

pub same_verdict : (table : Table) (us vs : Library) (n budget : ℕ) → take n us ≡ take n vs → slice_get us n ≡ slice_get vs n → plain_verdict table us n budget ≡ plain_verdict table vs n budget
same_verdict table us vs n budget e f = same_at table us vs n budget e (slice_get us n) ∙ ap (λ o. elim o as (λ y. PlainVerdict) [ Some u ↦ verdict_of table vs n u budget | None ↦ says_steps ]) f
