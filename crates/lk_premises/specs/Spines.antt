-- Arguments as a stack.
use Rattle.std.specs.Prelude.{ℕ, List, map, reverse}
use Rattle.lk_tree.specs.Tree.{Tree}
use Rattle.lk_store.specs.Contents.{Contents, tree_at}

-- the trees of a stack, from its top down
abbrev pub stack_at : Contents → List ℕ → List Tree
stack_at c es = map (tree_at c) (reverse es)
