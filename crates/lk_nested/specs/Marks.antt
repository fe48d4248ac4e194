-- What is kept of trees: whether they mention one of some names. It stays so while the store grows.
use Rattle.std.specs.Prelude.{◌≡◌, ℕ, ◌<◌, List, false, length, All}
use Rattle.lk_tree.specs.Tree.{Name}
use Rattle.lk_tree.specs.Mentions.{mentions}
use Rattle.lk_seek.specs.Sought.{Sought, truth}
use Rattle.lk_seek.specs.Trees.{in_trees}
use Rattle.lk_store.specs.declared.memory.NoMemory.{NoMemory}
use Rattle.lk_store.specs.Contents.{Contents, tree_at}
use Rattle.lk_nested.specs.declared.marks.Mark.{Mark}

pub record IsMark (c : Contents) (ns : List Name) (m : Mark) : Type 0 where
  pub known : m.tree < length c.trees
  pub is : m.mentions ≡ mentions ns (tree_at c m.tree)

abbrev pub AreMarked : Contents → List Name → List Mark → Type 0
AreMarked c ns marks = All (IsMark c ns) marks

-- the walk over all parts looks for nothing
abbrev pub all_parts : Contents → Sought ℕ NoMemory
all_parts c = in_trees truth (λ t. false) c
