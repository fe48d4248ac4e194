-- The parts of a tree that are trees. The type of a Local is none of them.
use Rattle.std.specs.Prelude.{ℕ, ◌<◌, List, [], ◌∷◌, length, Bool, true, false}
use Rattle.lk_tree.specs.Tree.{Tree}
use Rattle.lk_store.specs.Contents.{Contents, tree_at}
use Rattle.lk_store.specs.declared.node.Node.{Node}
use Rattle.lk_store.specs.declared.node.Node.TheVariants as node
use Rattle.lk_seek.specs.Sought.{Findings, Sought}
use Rattle.lk_seek.specs.Costs.{tree_cost}

-- from the last to the first
abbrev pub parts_back : Node → List ℕ
parts_back (node.App f a) = a ∷ f ∷ []
parts_back (node.Lam A b) = b ∷ A ∷ []
parts_back (node.Pi A B) = B ∷ A ∷ []
parts_back (node.Let A v b) = b ∷ v ∷ A ∷ []
parts_back (node.Proj S i s) = s ∷ []
parts_back _ = []

abbrev pub is_empty : {A : Type 0} → List A → Bool
is_empty [] = true
is_empty (x ∷ xs) = false

-- what is found in the trees of a store
abbrev pub in_trees : {E : Type 0} (f : Findings E) → (Tree → f.Found) → Contents → Sought ℕ E
in_trees f finds c = record {
  findings = f;
  found_in = λ e. finds (tree_at c e);
  is_in = λ e. e < length c.trees;
  cost = λ e. tree_cost (tree_at c e);
}
