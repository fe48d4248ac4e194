-- The sort of a type, by numbers.
use Rattle.std.specs.Prelude.{◌≡◌, ◌<◌, length}
use Rattle.lk_tree.specs.Tree.{Tree, sort}
use Rattle.lk_rulebook.specs.Place.{Place}
use Rattle.lk_store.specs.Contents.{Contents, level_at, tree_at}
use Rattle.lk_step.specs.Told.{IsForm, IsType}
use Rattle.lk_derive_equal.specs.declared.sorts.Sorted.{Sorted}

-- the trees of a sort's derivation
pub record IsSortedIn (c : Contents) (s : Sorted) : Type 0 where
  pub ty_in : s.ty < length c.trees
  pub form_in : s.form < length c.trees
  pub level_in : s.level < length c.levels

-- e : ty, and ty is the Sort of this level in weak head form
pub record IsSorted (w : Place) (e : Tree) (c : Contents) (s : Sorted) : Type 0 where
  pub known : IsSortedIn c s
  pub typed : IsType w e (tree_at c s.ty)
  pub formed : IsForm w (tree_at c s.ty) (tree_at c s.form)
  pub form_is : tree_at c s.form ≡ sort (level_at c s.level)
