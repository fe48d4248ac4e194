-- Auxiliary types by the numbers of a store.
use Rattle.std.specs.Prelude.{◌<◌, List, map, length, All}
use Rattle.lk_tree.specs.Tree.{const}
use Rattle.lk_tree.specs.Spine.{apply}
use Rattle.lk_store.specs.Contents.{Contents, name_at, level_at, list_at, tree_at, IsTree}
use Rattle.lk_env.specs.Units.{type_at, IsTypeIn}
use Rattle.lk_inductive.specs.Enlarged.{Aux}
use Rattle.lk_auxiliary.specs.declared.auxiliary.Auxiliary.{Auxiliary}

abbrev pub aux_at : Contents → Auxiliary → Aux
aux_at c a = record {
  name = name_at c a.name;
  own = type_at c a.own;
  levels = list_at c a.levels;
  args = map (tree_at c) a.arguments.items;
  type = tree_at c a.ty;
  indices = map (tree_at c) a.indices.items;
  sort = level_at c a.sort;
  ctors = map (tree_at c) a.constructors.items;
}

abbrev pub auxs_at : Contents → List Auxiliary → List Aux
auxs_at c as_ = map (aux_at c) as_

pub record IsAuxiliaryIn (c : Contents) (a : Auxiliary) : Type 0 where
  pub name_in : a.name < length c.names
  pub own_in : IsTypeIn c a.own
  pub levels_in : a.levels < length c.lists
  pub arguments_in : All (λ x. x < length c.trees) a.arguments.items
  pub instance_is : IsTree c a.instance (apply (const (name_at c a.name) (list_at c a.levels)) (map (tree_at c) a.arguments.items))
  pub ty_in : a.ty < length c.trees
  pub indices_in : All (λ x. x < length c.trees) a.indices.items
  pub sort_in : a.sort < length c.levels
  pub constructors_in : All (λ x. x < length c.trees) a.constructors.items
