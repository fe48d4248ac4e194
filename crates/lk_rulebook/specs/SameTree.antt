-- Trees compared.
use Rattle.std.specs.Prelude.{Bool, true, false}
use Rattle.lk_tree.specs.Tree.{Tree, tree_discrete}

abbrev pub decided : {A : Type 0} → Dec A → Bool
decided (yes a) = true
decided (no f) = false

abbrev pub is_same_tree : Tree → Tree → Bool
is_same_tree a b = decided (tree_discrete a b)
