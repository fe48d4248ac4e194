-- A test of Same that is run, and does not say no.
use Rattle.std.specs.Prelude.{ℕ, ◌≡◌, ◌<◌, Bool, false, Option, Some, None}
use Rattle.lk_rulebook.specs.Place.{Place}
use Rattle.lk_questions.specs.Pairs.{Line, ◌or_line◌}
use Rattle.lk_questions.specs.LiteralLines.{step_of, step_second, same_numbers}
use Rattle.lk_tree.specs.Spine.{head}
use Rattle.lk_tree.specs.Tree.{Tree}
use Rattle.lk_step.specs.Runs.{Runs}

-- it says yes or nothing, for less than this
pub record IsUndenied (w : Place) (line : Line) (most : ℕ) : Type 0 where
  pub value : Option Bool
  pub cost : ℕ
  pub runs : Runs w line value cost
  pub within : cost < most
  pub undenied : value ≡ Some false → ⊥

-- what stands behind the literal step of the first
abbrev pub after_first : Tree → Tree → Line
after_first a b = step_second a b or_line same_numbers a b

-- it never says no
pub record NeverDenies (w : Place) (line : Line) : Type 0 where
  pub never : (says : Option Bool) (n : ℕ) → Runs w line says n → says ≡ Some false → ⊥

-- the literal step of a gives no value
pub record NothingFirst (w : Place) (a : Tree) : Type 0 where
  pub nothing : (r : Option Tree) (n : ℕ) → Runs w (step_of a (head a)) r n → r ≡ None
