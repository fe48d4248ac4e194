-- Levels and arguments by the numbers of a store.
use Rattle.std.specs.Prelude.{◌≡◌, ◌<◌, List, map, length, All}
use Rattle.lk_tree.specs.Tree.{Level, Tree}
use Rattle.lk_store.specs.Contents.{Contents, level_at, list_at, tree_at}
use Rattle.lk_auxiliary.specs.declared.instance.At.{At}

abbrev pub levels_of : Contents → At → List Level
levels_of c at = map (level_at c) at.levels.now

abbrev pub arguments_of : Contents → At → List Tree
arguments_of c at = map (tree_at c) at.arguments.now

pub record IsAtIn (c : Contents) (at : At) : Type 0 where
  pub list_in : at.list < length c.lists
  pub list_is : list_at c at.list ≡ levels_of c at
  pub levels_in : All (λ l. l < length c.levels) at.levels.now
  pub arguments_in : All (λ x. x < length c.trees) at.arguments.now
