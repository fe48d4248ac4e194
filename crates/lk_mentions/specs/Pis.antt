-- The Pi at the head of a tree.
use Rattle.std.specs.Prelude.{◌≡◌, ℕ, ◌<◌, length, Bool, true, false, Option, Some, None}
use Rattle.lk_tree.specs.Tree.{Tree, pi}
use Rattle.lk_store.specs.Contents.{Contents, tree_at}
use Rattle.lk_store.specs.declared.node.Node.{Node}
use Rattle.lk_store.specs.declared.node.Node.TheVariants as node
use Rattle.lk_mentions.specs.declared.pis.Pi.{Pi}

abbrev pub pi_of : Node → Option Pi
pi_of (node.Pi A B) = Some (record { domain = A; body = B })
pi_of _ = None

abbrev pub is_pi : Tree → Bool
is_pi (pi A B) = true
is_pi _ = false

-- the tree is the Pi of the two trees
pub record IsPi (c : Contents) (e : ℕ) (p : Pi) : Type 0 where
  pub domain_known : p.domain < length c.trees
  pub body_known : p.body < length c.trees
  pub is : tree_at c e ≡ pi (tree_at c p.domain) (tree_at c p.body)

-- the Pi that a tree is, and none where it is no Pi
abbrev pub IsHeadPi : Contents → ℕ → Option Pi → Type 0
IsHeadPi c e (Some p) = IsPi c e p
IsHeadPi c e None = is_pi (tree_at c e) ≡ false
