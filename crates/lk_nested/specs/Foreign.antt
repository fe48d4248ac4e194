-- Locals other than these in a tree. The types of Locals do not count.
use Rattle.std.specs.Prelude.{◌≡◌, ℕ, ◌<◌, Bool, false, not, ◌||◌, List, length, All}
use Rattle.lk_tree.specs.Tree.{Tree, app, lam, pi, let_in, proj, local}
use Rattle.lk_inductive.specs.BlockSteps.{is_among}
use Rattle.lk_store.specs.declared.memory.NoMemory.{NoMemory}
use Rattle.lk_store.specs.Contents.{Contents, tree_at}
use Rattle.lk_seek.specs.Sought.{Sought, truth}
use Rattle.lk_seek.specs.Trees.{in_trees}
use Rattle.lk_mentions.specs.declared.part.Met.{Met}

abbrev pub has_foreign : List Tree → Tree → Bool
has_foreign ps (local k T) = not (is_among (local k T) ps)
has_foreign ps (app f a) = has_foreign ps f || has_foreign ps a
has_foreign ps (lam A b) = has_foreign ps A || has_foreign ps b
has_foreign ps (pi A B) = has_foreign ps A || has_foreign ps B
has_foreign ps (let_in A v b) = has_foreign ps A || (has_foreign ps v || has_foreign ps b)
has_foreign ps (proj S i s) = has_foreign ps s
has_foreign ps _ = false

-- what the walk looks for
abbrev pub foreign : List Tree → Contents → Sought ℕ NoMemory
foreign ps c = in_trees truth (has_foreign ps) c

-- a tree that was looked through has none
pub record IsOwn (ps : List Tree) (c : Contents) (m : Met) : Type 0 where
  pub known : m.tree < length c.trees
  pub own : has_foreign ps (tree_at c m.tree) ≡ false

abbrev pub AreOwn : List Tree → Contents → List Met → Type 0
AreOwn ps c met = All (IsOwn ps c) met
