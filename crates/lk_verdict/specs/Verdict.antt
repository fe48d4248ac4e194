-- The plain verdict of a unit by a table: the scan, then the unit's questions under one budget.
use Rattle.std.specs.Prelude.{ℕ, ◌≡◌, ◌<◌, ◌≤◌, [], Some, None, slice_get}
use Rattle.lk_tree.specs.declared.rule.Rule.{Rule}
use Rattle.lk_rulebook.specs.Units.{LibraryUnit, of_decl, of_block, Library, place_of}
use Rattle.lk_rulebook.specs.Scan.{scan_of}
use Rattle.lk_questions.specs.Answer.{Outcome, answered, refused, spent, outcome_of, plain_answer}
use Rattle.lk_questions.specs.Program.{Table}
use Rattle.lk_questions.specs.Declarations.{unit_steps}
use Rattle.lk_inductive.specs.NestedTask.{plain_whole}

pub data PlainVerdict : Type 0 where
  says_yes : PlainVerdict
  says_no : Rule → PlainVerdict
  says_steps : PlainVerdict

abbrev pub verdict_by : {A : Type 0} → Outcome A → PlainVerdict
verdict_by (answered v c t) = says_yes
verdict_by (refused r) = says_no r
verdict_by spent = says_steps

-- what the questions of u as unit n say
abbrev pub questions_of : Table → Library → ℕ → LibraryUnit → ℕ → PlainVerdict
questions_of table us n (of_decl d) budget = verdict_by (outcome_of (place_of us n []) (plain_answer table (place_of us n [])) budget (unit_steps d))
questions_of table us n (of_block b rs) budget = verdict_by (plain_whole table us n b rs budget)

-- the scan's rule comes first, with no question
abbrev pub verdict_of : Table → Library → ℕ → LibraryUnit → ℕ → PlainVerdict
verdict_of table us n u budget = elim (scan_of us n u) [ Some r ↦ says_no r | None ↦ questions_of table us n u budget ]

-- the plain verdict of unit n (beyond the last unit it is never yes)
abbrev pub plain_verdict : Table → Library → ℕ → ℕ → PlainVerdict
plain_verdict table us n budget = elim (slice_get us n) [ Some u ↦ verdict_of table us n u budget | None ↦ says_steps ]

-- yes comes exactly where the budget is at least c, and steps below
pub record IsYesFrom (f : ℕ → PlainVerdict) (c : ℕ) : Type 0 where
  pub enough : (b : ℕ) → c ≤ b → f b ≡ says_yes
  pub too_little : (b : ℕ) → b < c → f b ≡ says_steps
