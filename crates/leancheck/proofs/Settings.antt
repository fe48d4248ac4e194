-- What the walk for nested occurrences knows of a block.
use Rattle.std.proofs.Common.{◌≡◌, ◌<◌, ℕ, List, length, map, All, ap, sym, subst, ◌∙◌}
use Rattle.lk_tree.specs.Tree.{Name, Tree, param}
use Rattle.lk_store.specs.Contents.{Contents, name_at, tree_at, IsList}
use Rattle.lk_env.specs.declared.unit.Block.{Block}
use Rattle.lk_env.specs.Units.{block_at}
use Rattle.lk_inductive.specs.Block.{levels_of}
use Rattle.lk_inductive.specs.Enlarged.{Setting as PlainSetting, setting_of}
use Rattle.lk_mentions.proofs.TypeNames.{numbers_of, names_are}
use Rattle.lk_mentions.specs.Names.{names_at}
use Rattle.lk_auxiliary.specs.declared.setting.Setting.{Setting}
use Rattle.lk_auxiliary.specs.Settings.{setting_at, IsSettingIn}

abbrev made : List Name → List Name → List Tree → PlainSetting
made ns ls ps = record { names = ns; levels = ls; params = ps }

module _ (c : Contents) (b : Block) (s : Setting) (levels : map (name_at c) s.levels.now ≡ levels_of (block_at c b)) where
  pub setting_is : (ps : List ℕ) → s.names.now ≡ numbers_of b.types.items → s.parameters.now ≡ ps → setting_at c s ≡ setting_of (block_at c b) (map (tree_at c) ps)
  setting_is ps names params =
      ap (λ ns. made ns (map (name_at c) s.levels.now) (map (tree_at c) s.parameters.now)) (ap (names_at c) names ∙ names_are c b.types.items)
      ∙ ap (λ ls. made (setting_of (block_at c b) (map (tree_at c) ps)).names ls (map (tree_at c) s.parameters.now)) levels
      ∙ ap (λ xs. made (setting_of (block_at c b) (map (tree_at c) ps)).names (levels_of (block_at c b)) (map (tree_at c) xs)) params

  pub setting_known : (ns ps : List ℕ) (own : ℕ) → s.names.now ≡ ns → s.parameters.now ≡ ps → s.own_levels ≡ own → All (λ n. n < length c.names) ns → All (λ n. n < length c.names) s.levels.now → All (λ x. x < length c.trees) ps
      → IsList c own (map param (levels_of (block_at c b))) → IsSettingIn c s
  setting_known ns ps own names params same names_in levels_in params_in own_is = record {
    names_in = subst (All (λ n. n < length c.names)) (sym names) names_in;
    levels_in = levels_in;
    own_levels_are = subst (λ ls. IsList c s.own_levels (map param ls)) (sym levels) (subst (λ o. IsList c o (map param (levels_of (block_at c b)))) (sym same) own_is);
    parameters_in = subst (All (λ x. x < length c.trees)) (sym params) params_in;
  }
