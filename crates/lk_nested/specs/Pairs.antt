-- Pairs of trees by the numbers of a store.
use Rattle.std.specs.Prelude.{◌<◌, List, map, length, All}
use Rattle.lk_tree.specs.Tree.{Tree}
use Rattle.lk_store.specs.Contents.{Contents, tree_at}
use Rattle.lk_nested.specs.declared.swap.Pair.{Pair}

abbrev pub pair_at : Contents → Pair → Tree × Tree
pair_at c p = (tree_at c p.from, tree_at c p.to)

abbrev pub pairs_at : Contents → List Pair → List (Tree × Tree)
pairs_at c ps = map (pair_at c) ps

pub record IsPairIn (c : Contents) (p : Pair) : Type 0 where
  pub from_in : p.from < length c.trees
  pub to_in : p.to < length c.trees

abbrev pub ArePairsIn : Contents → List Pair → Type 0
ArePairsIn c ps = All (IsPairIn c) ps
