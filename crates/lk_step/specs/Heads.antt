-- Heads by which Core of an application looks at a major premise: constants of quotients, and
-- recursors.
use Rattle.std.specs.Prelude.{◌≡◌, List, Some}
use Rattle.lk_tree.specs.Tree.{Name, Level, Tree, const}
use Rattle.lk_tree.specs.Spine.{head}
use Rattle.lk_rulebook.specs.Place.{Place, Entry, Recursor, a_quot, a_rec}

-- the head of e is a constant
pub record HasConstant (e : Tree) : Type 0 where
  pub name : Name
  pub levels : List Level
  pub head_is : head e ≡ const name levels

-- the head of e is a constant that a quotient unit gives
pub record IsQuotientHead (w : Place) (e : Tree) : Type 0 where
  pub name : Name
  pub levels : List Level
  pub entry : Entry
  pub head_is : head e ≡ const name levels
  pub means : w.means name ≡ Some entry
  pub kind_is : entry.kind ≡ a_quot

-- the head of e is a recursor
pub record IsRecursorHead (w : Place) (e : Tree) : Type 0 where
  pub name : Name
  pub levels : List Level
  pub entry : Entry
  pub recursor : Recursor
  pub head_is : head e ≡ const name levels
  pub means : w.means name ≡ Some entry
  pub kind_is : entry.kind ≡ a_rec recursor

-- one of the two
pub data IsMajorHead (w : Place) (e : Tree) : Type 0 where
  by_quotient : IsQuotientHead w e → IsMajorHead w e
  by_recursor : IsRecursorHead w e → IsMajorHead w e
