-- A walk over the parts of a tree for names.
use Rattle.std.specs.Prelude.{◌≡◌, ℕ, List, All, not, Bool, true}
use Rattle.lk_tree.specs.Mentions.{mentions}
use Rattle.lk_store.specs.Contents.{Contents, tree_at}
use Rattle.lk_store.specs.declared.memory.NoMemory.{NoMemory}
use Rattle.lk_seek.specs.Sought.{Sought, truth}
use Rattle.lk_seek.specs.Trees.{in_trees}
use Rattle.lk_mentions.specs.declared.part.Met.{Met}
use Rattle.lk_mentions.specs.Names.{names_at}

-- the tree mentions none of the names
abbrev pub is_clear : Contents → List ℕ → ℕ → Bool
is_clear c ks e = not (mentions (names_at c ks) (tree_at c e))

-- each tree that was looked through mentions none of the names
abbrev pub AreClear : Contents → List ℕ → List Met → Type 0
AreClear c ks met = All (λ (m : Met). is_clear c ks m.tree ≡ true) met

-- what the walk looks for: whether a tree mentions one of the names
abbrev pub mentioned : Contents → List ℕ → Sought ℕ NoMemory
mentioned c ks = in_trees truth (mentions (names_at c ks)) c
