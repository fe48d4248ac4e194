-- Functions of applications, one inside the other.
use Rattle.std.specs.Prelude.{◌≡◌, ◌<◌, ℕ, length}
use Rattle.lk_tree.specs.Tree.{Tree, app}
use Rattle.lk_store.specs.Contents.{Contents, tree_at}

-- f is the function of the application e
pub record IsFunction (c : Contents) (e f : ℕ) : Type 0 where
  pub known : f < length c.trees
  pub argument : Tree
  pub is : tree_at c e ≡ app (tree_at c f) argument
