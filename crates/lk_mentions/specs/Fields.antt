-- Fields of constructors that mention none of some names.
use Rattle.std.specs.Prelude.{ℕ, List, Bool, false, Option, Some, None}
use Rattle.lk_tree.specs.Tree.{Name}
use Rattle.lk_rulebook.specs.Structures.{has_plain_fields}
use Rattle.lk_store.specs.Contents.{Contents, tree_at}

-- whether so many fields at the head of what is left are plain; where nothing is, Pis were missing
abbrev pub plain_rest : Contents → List Name → ℕ → Option ℕ → Bool
plain_rest c ns n (Some e) = has_plain_fields ns n (tree_at c e)
plain_rest c ns n None = false
