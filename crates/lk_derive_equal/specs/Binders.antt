-- Two binders, and their bodies under one Local.
use Rattle.std.specs.Prelude.{◌≡◌, ◌<◌, max, length}
use Rattle.lk_tree.specs.Tree.{Tree, local}
use Rattle.lk_tree.specs.Bind.{opened, bound}
use Rattle.lk_store.specs.Contents.{Contents, tree_at}
use Rattle.lk_derive_equal.specs.declared.binders.Binder.{Binder}
use Rattle.lk_derive_equal.specs.declared.binders.Bodies.{Bodies}

-- its trees are trees of the store
pub record IsBinderIn (c : Contents) (b : Binder) : Type 0 where
  pub domain_in : b.domain < length c.trees
  pub body_in : b.body < length c.trees

pub record AreBodiesIn (c : Contents) (o : Bodies) : Type 0 where
  pub local_in : o.local < length c.trees
  pub left_in : o.left < length c.trees
  pub right_in : o.right < length c.trees

-- the Local that a and b, two binders of these domains, are opened with
abbrev pub local_of : Tree → Tree → Tree → Tree
local_of a b A = local (max (bound a) (bound b)) A

-- the Local, and the bodies of the two opened with it
pub record AreOpened (a b A e f : Tree) (c : Contents) (o : Bodies) : Type 0 where
  pub known : AreBodiesIn c o
  pub local_is : tree_at c o.local ≡ local_of a b A
  pub left_is : tree_at c o.left ≡ opened e (local_of a b A)
  pub right_is : tree_at c o.right ≡ opened f (local_of a b A)
