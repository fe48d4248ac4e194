-- A projection, by numbers.
use Rattle.std.specs.Prelude.{ℕ, ◌≡◌, ◌<◌, length}
use Rattle.lk_tree.specs.Tree.{proj}
use Rattle.lk_store.specs.Contents.{Contents, name_at, tree_at}
use Rattle.lk_derive_equal.specs.declared.subjects.Projection.{Projection}

-- it is the tree e
pub record IsProjection (c : Contents) (e : ℕ) (p : Projection) : Type 0 where
  pub name_in : p.name < length c.names
  pub subject_in : p.subject < length c.trees
  pub is : proj (name_at c p.name) p.field (tree_at c p.subject) ≡ tree_at c e
