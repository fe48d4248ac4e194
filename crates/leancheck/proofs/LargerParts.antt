-- The indices of the auxiliary types behind those of the block's own, and the auxiliary types behind the block's own.
use Rattle.std.proofs.Common.{◌≡◌, ℕ, List, [], ◌∷◌, ◌++◌, length, map, drop, refl, All, ◌<◌, sym, ap, subst, ◌∙◌, append_assoc}
use Rattle.std.specs.Prelude.{Vec}
use Rattle.std.specs.declared.alloc.Global.{Global}
use Rattle.std.proofs.lemmas.List.{map-append}
use Rattle.std.proofs.lemmas.List.Elements.{All-push}
use Rattle.lk_store.specs.Contents.{Contents, tree_at}
use Rattle.lk_inductive.specs.BlockSteps.{TypeParts as PlainParts}
use Rattle.lk_inductive.specs.Nested.{Aux, aux_indices}
use Rattle.lk_auxiliary.specs.declared.auxiliary.Auxiliary.{Auxiliary}
use Rattle.lk_auxiliary.specs.Auxiliaries.{auxs_at, IsAuxiliaryIn}
use Rattle.lk_lists.proofs.Lists.{first_has}
use Rattle.lk_block.specs.Parts.{lists_at, AreListsIn}

module _ (c : Contents) (indices : List (Vec ℕ Global)) where
  pub lists_next : (longer : List (Vec ℕ Global)) (v : Vec ℕ Global) (rest more : List Auxiliary) (first : Auxiliary) → longer ≡ indices ++ v ∷ [] → v.items ≡ first.indices.items → rest ≡ first ∷ more
      → lists_at c longer ++ aux_indices (auxs_at c more) ≡ lists_at c indices ++ aux_indices (auxs_at c rest)
  lists_next longer v rest more first pushed same split =
      ap (λ xs. lists_at c xs ++ aux_indices (auxs_at c more)) pushed
      ∙ ap (λ ys. ys ++ aux_indices (auxs_at c more)) (map-append (λ (ys : Vec ℕ Global). map (tree_at c) ys.items) indices (v ∷ []))
      ∙ append_assoc (lists_at c indices) (map (tree_at c) v.items ∷ []) (aux_indices (auxs_at c more))
      ∙ ap (λ ys. lists_at c indices ++ map (tree_at c) ys ∷ aux_indices (auxs_at c more)) same
      ∙ sym (ap (λ as_. lists_at c indices ++ aux_indices (auxs_at c as_)) split)

  pub lists_known : (longer : List (Vec ℕ Global)) (v : Vec ℕ Global) (rest more : List Auxiliary) (first : Auxiliary) → longer ≡ indices ++ v ∷ [] → v.items ≡ first.indices.items → rest ≡ first ∷ more
      → AreListsIn c indices → All (IsAuxiliaryIn c) rest → AreListsIn c longer
  lists_known longer v rest more first pushed same split own stand =
      let last : All (λ x. x < length c.trees) v.items = subst (All (λ x. x < length c.trees)) (sym same) (first_has (IsAuxiliaryIn c) rest first more split stand).indices_in in
      subst (AreListsIn c) (sym pushed) (All-push (λ (ys : Vec ℕ Global). All (λ x. x < length c.trees) ys.items) indices v own last)

-- the second part, where the first has so many
passed : {X : Type 0} (xs ys : List X) → drop (length xs) (xs ++ ys) ≡ ys
passed [] ys = refl
passed (x ∷ xs) ys = passed xs ys

pub behind_is : {X : Type 0} (xs ys zs : List X) (n : ℕ) → n ≡ length xs → zs ≡ xs ++ ys → drop n zs ≡ ys
behind_is xs ys zs n count all = ap (λ m. drop m zs) count ∙ ap (drop (length xs)) all ∙ passed xs ys

abbrev pub with_indices : PlainParts → List Aux → PlainParts
with_indices ts as_ = record ts { indices = ts.indices ++ aux_indices as_ }
