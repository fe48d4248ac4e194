-- The parts of a row under a binder, by numbers.
use Rattle.std.specs.Prelude.{ℕ, [], ◌∷◌}
use Rattle.lk_tree.specs.Tree.{Level, Tree, sort}
use Rattle.lk_rulebook.specs.Place.{Place}
use Rattle.lk_rulebook.specs.Claims.{types, reduces, equals}
use Rattle.lk_questions.specs.Query.{infer, whnf, same}
use Rattle.lk_written.specs.Line.{lam_rule, pi_rule, let_rule}
use Rattle.lk_store.specs.Contents.{Contents, IsTree}
use Rattle.lk_derive_types.specs.declared.parts.Sorted.{Sorted}
use Rattle.lk_derive_types.specs.declared.binders.Inside.{Inside}
use Rattle.lk_derive_types.specs.TypeRows.{IsTypedRow}

-- the sort of the domain, and the type of the opened body
pub record IsLambdaAt (w : Place) (c : Contents) (e domain : ℕ) (s : Sorted) (i : Inside)
    (inner ty : ℕ) (tree : Tree) : Type 0 where
  pub over : Tree
  pub between : Tree
  pub level : Level
  pub bound : Tree
  pub inside : Tree
  pub inside_type : Tree
  pub type : Tree
  pub e_is : IsTree c e tree
  pub domain_is : IsTree c domain over
  pub between_is : IsTree c s.ty between
  pub sort_is : IsTree c s.sort (sort level)
  pub local_is : IsTree c i.local bound
  pub body_is : IsTree c i.body inside
  pub inner_is : IsTree c inner inside_type
  pub ty_is : IsTree c ty type
  pub row : IsTypedRow w (lam_rule bound) tree type
      (infer over ∷ whnf between ∷ infer inside ∷ [])
      (types over between ∷ reduces between (sort level) ∷ types inside inside_type ∷ [])

-- the sorts of the domain and of the opened body
pub record IsPiAt (w : Place) (c : Contents) (e domain : ℕ) (s : Sorted) (i : Inside) (t : Sorted)
    (ty : ℕ) (tree : Tree) : Type 0 where
  pub over : Tree
  pub between : Tree
  pub level : Level
  pub bound : Tree
  pub inside : Tree
  pub inside_type : Tree
  pub inside_level : Level
  pub type : Tree
  pub e_is : IsTree c e tree
  pub domain_is : IsTree c domain over
  pub between_is : IsTree c s.ty between
  pub sort_is : IsTree c s.sort (sort level)
  pub local_is : IsTree c i.local bound
  pub body_is : IsTree c i.body inside
  pub inner_is : IsTree c t.ty inside_type
  pub inner_sort_is : IsTree c t.sort (sort inside_level)
  pub ty_is : IsTree c ty type
  pub row : IsTypedRow w (pi_rule bound) tree type
      (infer over ∷ whnf between ∷ infer inside ∷ whnf inside_type ∷ [])
      (types over between ∷ reduces between (sort level) ∷ types inside inside_type
      ∷ reduces inside_type (sort inside_level) ∷ [])

-- the sort of what is stated, the type of the value, that it is that, and the type of the body
pub record IsLetAt (w : Place) (c : Contents) (e stated : ℕ) (s : Sorted)
    (value value_type body ty : ℕ) (tree : Tree) : Type 0 where
  pub over : Tree
  pub between : Tree
  pub level : Level
  pub put : Tree
  pub put_type : Tree
  pub inside : Tree
  pub type : Tree
  pub e_is : IsTree c e tree
  pub stated_is : IsTree c stated over
  pub between_is : IsTree c s.ty between
  pub sort_is : IsTree c s.sort (sort level)
  pub value_is : IsTree c value put
  pub value_type_is : IsTree c value_type put_type
  pub body_is : IsTree c body inside
  pub ty_is : IsTree c ty type
  pub row : IsTypedRow w let_rule tree type
      (infer over ∷ whnf between ∷ infer put ∷ same put_type over ∷ infer inside ∷ [])
      (types over between ∷ reduces between (sort level) ∷ types put put_type
      ∷ equals put_type over ∷ types inside type ∷ [])
