-- Locals whose types do not fit them.
use Rattle.std.specs.Prelude.{ℕ, Bool, false, ◌&&◌, ◌||◌, not, nat_le, List, [], ◌∷◌}
use Rattle.lk_tree.specs.Tree.{Tree, app, lam, pi, let_in, proj, local}
use Rattle.lk_tree.specs.Bind.{bound}
use Rattle.lk_tree.specs.Loose.{loose}
use Rattle.lk_store.specs.declared.node.Node.{Node}
use Rattle.lk_store.specs.declared.node.Node.TheVariants as node
use Rattle.lk_seek.specs.Trees.{parts_back}

-- the tree is a Local whose type is not closed, or has Locals of its number or a later one
abbrev pub is_unfit : Tree → Bool
is_unfit (local k T) = not (nat_le (loose T) 0 && nat_le (bound T) k)
is_unfit _ = false

-- such a Local stands in the tree, or in the type of a Local of it
abbrev pub has_unfit : Tree → Bool
has_unfit (app f a) = has_unfit f || has_unfit a
has_unfit (lam A b) = has_unfit A || has_unfit b
has_unfit (pi A B) = has_unfit A || has_unfit B
has_unfit (let_in A v b) = has_unfit A || (has_unfit v || has_unfit b)
has_unfit (proj S i s) = has_unfit s
has_unfit (local k T) = is_unfit (local k T) || has_unfit T
has_unfit _ = false

-- the parts of a node that are trees, from the last to the first, the type of a Local too
abbrev pub all_parts_back : Node → List ℕ
all_parts_back (node.Local k T) = T ∷ []
all_parts_back n = parts_back n
