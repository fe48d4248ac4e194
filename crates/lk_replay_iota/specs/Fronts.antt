-- What is applied to some arguments.
use Rattle.std.specs.Prelude.{◌≡◌, ◌<◌, ℕ, List, length, Option, Some, None}
use Rattle.lk_tree.specs.Tree.{Tree}
use Rattle.lk_tree.specs.Spine.{apply}
use Rattle.lk_store.specs.Contents.{Contents, tree_at}

-- t is it, applied to xs; there is none where t is nothing that is applied to them
abbrev pub IsFront : Contents → List Tree → Tree → Option ℕ → Type 0
IsFront c xs t (Some h) = (h < length c.trees) × (t ≡ apply (tree_at c h) xs)
IsFront c xs t None = (h : Tree) → t ≡ apply h xs → ⊥
