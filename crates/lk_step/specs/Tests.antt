-- A program of the question table that was run, for less than so much.
use Rattle.std.specs.Prelude.{ℕ, ◌≡◌, ◌<◌, Bool, true, false, Some}
use Rattle.lk_tree.specs.Tree.{Tree}
use Rattle.lk_tree.specs.Spine.{IsHeadNormal}
use Rattle.lk_tree.specs.WellFormed.{IsWellFormed}
use Rattle.lk_rulebook.specs.Place.{Place}
use Rattle.lk_rulebook.specs.WellStated.{WellStated}
use Rattle.lk_questions.specs.Pairs.{Line}
use Rattle.lk_questions.specs.Program.{Program}
use Rattle.lk_step.specs.Runs.{Runs}

-- the program gives a value, for less than this
pub record IsRun {A : Type 0} (w : Place) (p : Program A) (most : ℕ) : Type 0 where
  pub value : A
  pub cost : ℕ
  pub runs : Runs w p value cost
  pub within : cost < most

-- two trees whose heads take no step, at a place where what names mean is stated
pub record AreReduced (w : Place) (a b : Tree) : Type 0 where
  pub stated : WellStated w
  pub left : IsWellFormed a
  pub right : IsWellFormed b
  pub left_normal : IsHeadNormal a
  pub right_normal : IsHeadNormal b

-- two different trees, at a place where what names mean is stated
pub record ArePair (w : Place) (a b : Tree) : Type 0 where
  pub stated : WellStated w
  pub left : IsWellFormed a
  pub right : IsWellFormed b
  pub unequal : a ≡ b → ⊥

-- the program says yes, for less than this
pub record IsYes (w : Place) (p : Program Bool) (most : ℕ) : Type 0 where
  pub cost : ℕ
  pub runs : Runs w p true cost
  pub within : cost < most

-- however the line was run, it did not say no
abbrev pub NeverNo : Place → Line → Type 0
NeverNo w line = (cost : ℕ) → Runs w line (Some false) cost → ⊥
