-- What the walk for nested occurrences knows of a block, by the numbers of a store.
use Rattle.std.specs.Prelude.{◌<◌, map, length, All}
use Rattle.lk_tree.specs.Tree.{param}
use Rattle.lk_inductive.specs.Enlarged.{Setting as PlainSetting}
use Rattle.lk_mentions.specs.Names.{names_at}
use Rattle.lk_store.specs.Contents.{Contents, name_at, tree_at, IsList}
use Rattle.lk_auxiliary.specs.declared.setting.Setting.{Setting}

abbrev pub setting_at : Contents → Setting → PlainSetting
setting_at c s = record { names = names_at c s.names.now; levels = map (name_at c) s.levels.now; params = map (tree_at c) s.parameters.now }

pub record IsSettingIn (c : Contents) (s : Setting) : Type 0 where
  pub names_in : All (λ n. n < length c.names) s.names.now
  pub levels_in : All (λ n. n < length c.names) s.levels.now
  pub own_levels_are : IsList c s.own_levels (map param (map (name_at c) s.levels.now))
  pub parameters_in : All (λ x. x < length c.trees) s.parameters.now
