-- A term that is a projection.
use Rattle.std.specs.Prelude.{◌≡◌, ◌<◌, ℕ, length}
use Rattle.lk_tree.specs.Tree.{Name, proj}
use Rattle.lk_store.specs.Contents.{Contents, tree_at}

-- the term of this number is a projection of that subject
pub record IsProjection (c : Contents) (e subject : ℕ) : Type 0 where
  pub subject_in : subject < length c.trees
  pub structure : Name
  pub field : ℕ
  pub is : tree_at c e ≡ proj structure field (tree_at c subject)
