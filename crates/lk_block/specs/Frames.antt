-- What the checks of a block's constructors know of it, by the numbers of a store.
use Rattle.std.specs.Prelude.{ℕ, ◌<◌, List, length, map, All}
use Rattle.lk_tree.specs.Tree.{Name}
use Rattle.lk_store.specs.Contents.{Contents, level_at, list_at, tree_at}
use Rattle.lk_env.specs.declared.unit.BlockType.{BlockType}
use Rattle.lk_env.specs.Units.{type_at, IsTypeIn}
use Rattle.lk_mentions.specs.Names.{names_at}
use Rattle.lk_inductive.specs.Block as plain
use Rattle.lk_inductive.specs.Block.{counts_of}
use Rattle.lk_block.specs.declared.frame.Frame.{Frame}

-- the types' names, each with its number of indices
abbrev pub listed_at : Contents → List BlockType → List (Name × ℕ)
listed_at c ts = counts_of (map (type_at c) ts)

abbrev pub frame_at : Contents → Frame → plain.Frame
frame_at c f = record {
  levels = list_at c f.levels;
  params = map (tree_at c) f.parameters.now;
  sort = level_at c f.sort;
  names = names_at c f.names;
  types = listed_at c f.types.now;
}

-- its names, levels and trees are numbers of the store
pub record IsFrameIn (c : Contents) (f : Frame) : Type 0 where
  pub levels_in : f.levels < length c.lists
  pub parameters_in : All (λ x. x < length c.trees) f.parameters.now
  pub sort_in : f.sort < length c.levels
  pub names_in : All (λ n. n < length c.names) f.names
  pub types_in : All (IsTypeIn c) f.types.now
