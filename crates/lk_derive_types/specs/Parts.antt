-- Parts that several rows have: a sort, and a function type.
use Rattle.std.specs.Prelude.{◌≤◌, ℕ}
use Rattle.lk_tree.specs.Tree.{Level, Tree, sort, pi}
use Rattle.lk_rulebook.specs.Place.{Place}
use Rattle.lk_questions.specs.Query.{infer, whnf}
use Rattle.lk_store.specs.Contents.{Contents, IsLevel, IsTree}
use Rattle.lk_step.specs.Rows.{IsAnswered}
use Rattle.lk_step.specs.Told.{IsType, IsForm}
use Rattle.lk_derive_types.specs.declared.parts.Sorted.{Sorted}
use Rattle.lk_derive_types.specs.declared.parts.Function.{Function}

-- the sort of A is found by two questions, each within this
pub record IsSortedWithin (w : Place) (A : Tree) (most : ℕ) : Type 0 where
  pub between : Tree
  pub level : Level
  pub first : ℕ
  pub second : ℕ
  pub typed : IsAnswered w (infer A) between first
  pub reduced : IsAnswered w (whnf between) (sort level) second
  pub first_within : first ≤ most
  pub second_within : second ≤ most

-- these are its answers
pub record IsSortRead (w : Place) (c : Contents) (A : Tree) (s : Sorted) : Type 0 where
  pub between : Tree
  pub level : Level
  pub ty_is : IsTree c s.ty between
  pub sort_is : IsTree c s.sort (sort level)
  pub level_is : IsLevel c s.level level
  pub typed : IsType w A between
  pub reduced : IsForm w between (sort level)

-- F reduces to a Pi, which is found within this
pub record IsPiWithin (w : Place) (F : Tree) (most : ℕ) : Type 0 where
  pub domain : Tree
  pub body : Tree
  pub cost : ℕ
  pub reduced : IsAnswered w (whnf F) (pi domain body) cost
  pub within : cost ≤ most

-- this is the Pi
pub record IsPiRead (w : Place) (c : Contents) (F : Tree) (f : Function) : Type 0 where
  pub domain : Tree
  pub body : Tree
  pub pi_is : IsTree c f.pi (pi domain body)
  pub domain_is : IsTree c f.domain domain
  pub body_is : IsTree c f.body body
  pub reduced : IsForm w F (pi domain body)
