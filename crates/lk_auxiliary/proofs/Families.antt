-- Parts of auxiliary types, while the store grows.
use Rattle.std.proofs.Common.{◌≡◌, ℕ, ◌<◌, List, length, map, All, refl, ap, ◌∙◌, arith}
use Rattle.lk_tree.specs.Tree.{const}
use Rattle.lk_tree.specs.Spine.{apply}
use Rattle.lk_env.specs.declared.unit.BlockType.{BlockType}
use Rattle.lk_env.specs.Units.{type_at, IsTypeIn}
use Rattle.lk_store.specs.Contents.{Contents, name_at, list_at, tree_at, Extends, IsTree}
use Rattle.lk_subst.specs.Numbers.{trees-steady, trees-known}
use Rattle.lk_env.proofs.Stays.{type_stays}
use Rattle.lk_auxiliary.specs.declared.instance.At.{At}
use Rattle.lk_auxiliary.specs.declared.parts.Parts.{Parts}
use Rattle.lk_auxiliary.specs.Parts.{parts_at, parts_form, aux_with, ArePartsIn}
use Rattle.lk_auxiliary.specs.Places.{levels_of, arguments_of, IsAtIn}
use Rattle.lk_auxiliary.proofs.Steady.{levels_stay}

module _ (c d : Contents) (x : Extends c d) where
  pub parts_stay : (p : Parts) → ArePartsIn c p → parts_at d p ≡ parts_at c p
  parts_stay p h = rw (x.trees.same p.ty h.ty_in, trees-steady c d p.indices.items x h.indices_in, x.levels.same p.sort h.sort_in, trees-steady c d p.constructors.items x h.constructors_in) refl

  pub parts_known : (p : Parts) → ArePartsIn c p → ArePartsIn d p
  parts_known p h = record {
    ty_in = (let l = h.ty_in in let longer = x.trees.longer in omega arith);
    indices_in = trees-known c d p.indices.items x h.indices_in;
    sort_in = (let l = h.sort_in in let longer = x.levels.longer in omega arith);
    constructors_in = trees-known c d p.constructors.items x h.constructors_in;
  }

  module _ (at : At) (at_in : IsAtIn c at) (own : BlockType) (own_in : IsTypeIn c own) where
    pub form_steady : (first e : ℕ) → parts_form first (levels_of d at) (arguments_of d at) (type_at d own) (tree_at d e) ≡ parts_form first (levels_of c at) (arguments_of c at) (type_at c own) (tree_at d e)
    form_steady first e =
        ap (λ ls. parts_form first ls (arguments_of d at) (type_at d own) (tree_at d e)) (levels_stay c d x at.levels.now at_in.levels_in)
        ∙ ap (λ bs. parts_form first (levels_of c at) bs (type_at d own) (tree_at d e)) (trees-steady c d at.arguments.now x at_in.arguments_in)
        ∙ ap (λ t. parts_form first (levels_of c at) (arguments_of c at) t (tree_at d e)) (type_stays c d x own own_in)

    pub aux_steady : (name : ℕ) (p : Parts) → name < length c.names
        → aux_with (list_at d at.list) (arguments_of d at) (name_at d name) (type_at d own) (parts_at d p) ≡ aux_with (levels_of c at) (arguments_of c at) (name_at c name) (type_at c own) (parts_at d p)
    aux_steady name p name_in =
        rw (x.lists.same at.list at_in.list_in, at_in.list_is, trees-steady c d at.arguments.now x at_in.arguments_in, x.names.same name name_in, type_stays c d x own own_in) refl

  pub instance_stays : (name list e : ℕ) (xs : List ℕ) → name < length c.names → list < length c.lists → All (λ x. x < length c.trees) xs
      → IsTree d e (apply (const (name_at c name) (list_at c list)) (map (tree_at c) xs)) → IsTree d e (apply (const (name_at d name) (list_at d list)) (map (tree_at d) xs))
  instance_stays name list e xs h i j made = rw (x.names.same name h, x.lists.same list i, trees-steady c d xs x j) made
