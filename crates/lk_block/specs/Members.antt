-- A term as a type of the block, applied to the block's parameters and to indices.
use Rattle.std.specs.Prelude.{◌<◌, List, length, map, Option, Some, None, if◌then◌else◌}
use Rattle.lk_tree.specs.Tree.{Name, Level, Tree, const}
use Rattle.lk_questions.specs.Steps.{is_same_tree}
use Rattle.lk_store.specs.Contents.{Contents, name_at, tree_at}
use Rattle.lk_block.specs.Shapes.{AreTreesIn}
use Rattle.lk_block.specs.declared.members.Member.{Member}

-- the name of a constant at these levels
abbrev pub own_name : List Level → Tree → Option Name
own_name us (const T ls) = if is_same_tree (const T ls) (const T us) then Some T else None
own_name us _ = None

abbrev pub member_at : Contents → Option Member → Option (Name × List Tree)
member_at c None = None
member_at c (Some m) = Some (name_at c m.name, map (tree_at c) m.indices.items)

pub record IsMemberIn (c : Contents) (m : Member) : Type 0 where
  pub name_in : m.name < length c.names
  pub indices_in : AreTreesIn c m.indices.items
