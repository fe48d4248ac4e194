-- The tests of members, one by one.
use Rattle.std.specs.Prelude.{ℕ, ◌&&◌, List, Bool, map}
use Rattle.std.specs.List.{list_all}
use Rattle.lk_tree.specs.Tree.{Name, Tree}
use Rattle.lk_tree.specs.Scan.{none_twice, tree_over}
use Rattle.lk_store.specs.Contents.{Contents, name_at, tree_at}
use Rattle.lk_env.specs.declared.unit.Constructor.{Constructor}
use Rattle.lk_env.specs.declared.unit.BlockType.{BlockType}
use Rattle.lk_env.specs.declared.unit.RecursorRule.{RecursorRule}
use Rattle.lk_env.specs.declared.unit.Recursor.{Recursor}
use Rattle.lk_scan.specs.declared.trees.Walked.{Walked}
use Rattle.lk_scan.specs.Walks.{IsDeclared, AreWithin}

-- what was met has no level parameter but the declared ones
pub record IsWalked (c : Contents) (w : Walked) : Type 0 where
  pub declared_is : IsDeclared c w.declared
  pub met_over : AreWithin c w.declared w.met

-- no level parameter stands twice
abbrev pub different : Contents → List ℕ → Bool
different c levels = none_twice (map (name_at c) levels)

abbrev pub type_different : Contents → BlockType → Bool
type_different c t = different c t.levels.items

abbrev pub constructor_different : Contents → Constructor → Bool
constructor_different c k = different c k.levels.items

abbrev pub constructors_different : Contents → BlockType → Bool
constructors_different c t = list_all (constructor_different c) t.constructors.items

abbrev pub recursor_different : Contents → Recursor → Bool
recursor_different c r = different c r.levels.items

-- each level parameter of a tree is declared
abbrev pub is_over : List Name × Tree → Bool
is_over e = tree_over e.0 e.1

abbrev pub type_over : Contents → BlockType → Bool
type_over c t = tree_over (map (name_at c) t.levels.items) (tree_at c t.ty)

abbrev pub constructor_over : Contents → Constructor → Bool
constructor_over c k = tree_over (map (name_at c) k.levels.items) (tree_at c k.ty)

abbrev pub constructors_over : Contents → BlockType → Bool
constructors_over c t = list_all (constructor_over c) t.constructors.items

abbrev pub rule_over : Contents → List Name → RecursorRule → Bool
rule_over c ps r = tree_over ps (tree_at c r.value)

-- a recursor's type and the right sides of its rules
abbrev pub recursor_over : Contents → Recursor → Bool
recursor_over c r = tree_over (map (name_at c) r.levels.items) (tree_at c r.ty) && list_all (rule_over c (map (name_at c) r.levels.items)) r.rules.items
