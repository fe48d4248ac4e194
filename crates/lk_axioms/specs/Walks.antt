-- The walk through a tree, its last visit on top.
use Rattle.std.specs.Prelude.{ℕ, ◌≡◌, ◌<◌, ◌⊎◌, List, ◌∷◌, ◌++◌, map, length}
use Rattle.lk_store.specs.Contents.{Contents, tree_at, tree_of, IsIn}
use Rattle.lk_store.specs.declared.node.Node.{Node}
use Rattle.lk_seek.specs.Trees.{parts_back}
use Rattle.lk_axioms.specs.declared.visit.Visit.{Visit}
use Rattle.lk_axioms.specs.declared.visit.Visit.TheVariants.{Enter, Leave}
use Rattle.lk_axioms.specs.declared.finding.Finding.{Finding}
use Rattle.lk_axioms.specs.Gives.{IsKnown}

-- the tree has this node
pub record IsNodeOf (c : Contents) (e : ℕ) (node : Node) : Type 0 where
  pub tree_in : e < length c.trees
  pub node_in : IsIn c node
  pub tree : tree_of c node ≡ tree_at c e

-- a tree is put on the stack again, with its parts above it
pub record IsOpened (c : Contents) (e : ℕ) (old new : List Visit) : Type 0 where
  pub node : Node
  pub is_node : IsNodeOf c e node
  pub pushed : new ≡ old ++ Leave e node ∷ map Enter (parts_back node)

-- what was found in a tree is known, or it is opened
abbrev pub IsEntered : Contents → ℕ → List Finding → ℕ → List Visit → List Visit → Type 0
IsEntered c n cells e old new = (IsKnown n cells e × (new ≡ old)) ⊎ IsOpened c e old new
