-- What the type of a lambda or a Pi comes from: its parts, opened with a Local that is fresh for
-- the whole conclusion.
use Rattle.std.specs.Prelude.{ℕ, ◌≡◌, [], ◌∷◌}
use Rattle.lk_tree.specs.Tree.{Level, imax_level, Tree, sort, lam, pi, local}
use Rattle.lk_tree.specs.Bind.{opened, Fresh}
use Rattle.lk_rulebook.specs.Place.{Place}
use Rattle.lk_rulebook.specs.Rules.{HasType, HasSort}

-- X is a Pi over A, and the body has its body as a type under a Local that is fresh for both
pub record IsLamType (w : Place) (A b X : Tree) : Type 0 where
  pub body_type : Tree
  pub level : Level
  pub number : ℕ
  pub is_pi : X ≡ pi A body_type
  pub fresh : Fresh number (lam A b ∷ pi A body_type ∷ [])
  pub domain : HasSort w A level
  pub body : HasType w (opened b (local number A)) (opened body_type (local number A))

-- X is the Sort of the parts' levels, and the body has its sort under a Local that is fresh for the
-- Pi
pub record IsPiType (w : Place) (A B X : Tree) : Type 0 where
  pub domain_level : Level
  pub body_level : Level
  pub number : ℕ
  pub is_sort : X ≡ sort (imax_level domain_level body_level)
  pub fresh : Fresh number (pi A B ∷ [])
  pub domain : HasSort w A domain_level
  pub body : HasSort w (opened B (local number A)) body_level
