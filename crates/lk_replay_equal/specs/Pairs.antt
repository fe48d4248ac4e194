-- Pairs of arguments as a stack.
use Rattle.std.specs.Prelude.{◌<◌, List, length, map, reverse}
use Rattle.lk_tree.specs.Tree.{Tree}
use Rattle.lk_store.specs.Contents.{Contents, tree_at}
use Rattle.lk_replay_equal.specs.declared.spines.ArgumentPair.{ArgumentPair}

abbrev pub pair_at : Contents → ArgumentPair → Tree × Tree
pair_at c p = (tree_at c p.left, tree_at c p.right)

-- from the top of the stack down
abbrev pub pairs_at : Contents → List ArgumentPair → List (Tree × Tree)
pairs_at c ps = map (pair_at c) (reverse ps)

-- its trees are trees of the store
pub record IsPairIn (c : Contents) (p : ArgumentPair) : Type 0 where
  pub left_in : p.left < length c.trees
  pub right_in : p.right < length c.trees
