-- A constant, by numbers.
use Rattle.std.specs.Prelude.{ℕ, ◌≡◌, ◌<◌, length}
use Rattle.lk_tree.specs.Tree.{const}
use Rattle.lk_store.specs.Contents.{Contents, name_at, list_at, tree_at}
use Rattle.lk_derive_equal.specs.declared.constants.Constant.{Constant}

-- it is the tree e
pub record IsConstant (c : Contents) (e : ℕ) (k : Constant) : Type 0 where
  pub name_in : k.name < length c.names
  pub levels_in : k.levels < length c.lists
  pub is : const (name_at c k.name) (list_at c k.levels) ≡ tree_at c e
