-- A test of Same that was run, for less than so much, and did not say no.
use Rattle.std.specs.Prelude.{ℕ, ◌≡◌, ◌<◌, Bool, false, Option, Some}
use Rattle.lk_rulebook.specs.Place.{Place}
use Rattle.lk_questions.specs.Pairs.{Line}
use Rattle.lk_step.specs.Runs.{Runs}

-- where it says something, that is yes
pub record IsNotNo (w : Place) (line : Line) (most : ℕ) : Type 0 where
  pub value : Option Bool
  pub cost : ℕ
  pub runs : Runs w line value cost
  pub within : cost < most
  pub not_no : value ≡ Some false → ⊥
