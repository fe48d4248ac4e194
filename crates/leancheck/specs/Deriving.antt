-- Who answers questions, and how much one may cost.
use Rattle.std.specs.Prelude.{ℕ}

pub record Deriving (D : Type 0) : Type 0 where
  pub derives : D
  pub enough : ℕ
