-- A walk over the parts of a tree for Locals whose types do not fit them.
use Rattle.std.specs.Prelude.{◌≡◌, ℕ, ◌<◌, List, All, length, false}
use Rattle.lk_store.specs.Contents.{Contents, tree_at}
use Rattle.lk_store.specs.declared.memory.NoMemory.{NoMemory}
use Rattle.lk_seek.specs.Sought.{Sought, truth}
use Rattle.lk_seek.specs.Trees.{in_trees}
use Rattle.lk_mentions.specs.declared.part.Met.{Met}
use Rattle.lk_fine.specs.Locals.{has_unfit}

-- each Local of a tree that was looked through is fit
pub record IsFit (c : Contents) (m : Met) : Type 0 where
  pub known : m.tree < length c.trees
  pub fit : has_unfit (tree_at c m.tree) ≡ false

abbrev pub AreFit : Contents → List Met → Type 0
AreFit c met = All (IsFit c) met

-- what the walk looks for
abbrev pub unfit_locals : Contents → Sought ℕ NoMemory
unfit_locals c = in_trees truth has_unfit c
