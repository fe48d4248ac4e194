-- Types with one value.
use Rattle.std.specs.Prelude.{ℕ, ◌≡◌, ◌<◌, Bool, true, false, List, length, Option, Some, None}
use Rattle.lk_tree.specs.Tree.{Name, Level, Tree}
use Rattle.lk_tree.specs.Spine.{args}
use Rattle.lk_rulebook.specs.Place.{Place, Entry}
use Rattle.lk_questions.specs.Eta.{is_unit_like_at}
use Rattle.lk_store.specs.Contents.{Contents, tree_at}
use Rattle.lk_premises.specs.Heads.{head_means}
use Rattle.lk_step.specs.Told.{IsType, IsForm}

-- it means a unit-like type, which these are exactly the parameters of
abbrev pub is_one_value : List Tree → Option ((Name × List Level) × Entry) → Bool
is_one_value bs None = false
is_one_value bs (Some m) = is_unit_like_at m.1.kind bs

-- so does the head of T, with its arguments
abbrev pub has_one_value : Place → Tree → Bool
has_one_value w T = is_one_value (args T) (head_means w T)

-- a has the type ty, whose weak head form is one with one value
pub record IsOfOneValue (w : Place) (a : Tree) (c : Contents) (ty form : ℕ) : Type 0 where
  pub ty_in : ty < length c.trees
  pub form_in : form < length c.trees
  pub typed : IsType w a (tree_at c ty)
  pub formed : IsForm w (tree_at c ty) (tree_at c form)
  pub one : has_one_value w (tree_at c form) ≡ true
