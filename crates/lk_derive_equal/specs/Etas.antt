-- A term whose type is a function type in weak head form.
use Rattle.std.specs.Prelude.{◌≡◌, ◌<◌, length}
use Rattle.lk_tree.specs.Tree.{Tree, lam, pi}
use Rattle.lk_rulebook.specs.Place.{Place}
use Rattle.lk_store.specs.Contents.{Contents, tree_at}
use Rattle.lk_step.specs.Told.{IsType, IsForm}
use Rattle.lk_derive_equal.specs.declared.functions.Typed.{Typed}

-- e has the type ty, which is form, a Pi of that domain
pub record IsTypedBy (w : Place) (e : Tree) (c : Contents) (p : Typed) : Type 0 where
  pub ty_in : p.ty < length c.trees
  pub form_in : p.form < length c.trees
  pub domain_in : p.domain < length c.trees
  pub codomain_in : p.codomain < length c.trees
  pub typed : IsType w e (tree_at c p.ty)
  pub formed : IsForm w (tree_at c p.ty) (tree_at c p.form)
  pub form_is : tree_at c p.form ≡ pi (tree_at c p.domain) (tree_at c p.codomain)

-- it is a lambda
abbrev pub IsLambda : Tree → Type 0
IsLambda e = (A : Tree) × (b : Tree) × (lam A b ≡ e)
