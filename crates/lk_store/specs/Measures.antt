-- What is kept of a tree beside its node.
use Rattle.std.specs.Prelude.{◌≡◌, Bool, true, false, ◌||◌, List, [], ◌∷◌}
use Rattle.lk_tree.specs.Loose.{loose}
use Rattle.lk_tree.specs.Scan.{is_narrow}
use Rattle.lk_tree.specs.Bind.{bound}
use Rattle.lk_store.specs.declared.marks.Marks.{Marks}
use Rattle.lk_tree.specs.Tree.{Level, zero_level, succ_level, max_level, imax_level, param}
use Rattle.lk_tree.specs.Tree.{Tree, sort, const, app, lam, pi, let_in, proj, local}

-- whether a parameter stands in a level
abbrev pub level_has_params : Level → Bool
level_has_params zero_level = false
level_has_params (succ_level l) = level_has_params l
level_has_params (max_level l m) = level_has_params l || level_has_params m
level_has_params (imax_level l m) = level_has_params l || level_has_params m
level_has_params (param n) = true

abbrev pub list_has_params : List Level → Bool
list_has_params [] = false
list_has_params (l ∷ ls) = level_has_params l || list_has_params ls

-- whether a parameter stands in a level of the tree, or of the type of a Local
abbrev pub has_params : Tree → Bool
has_params (sort l) = level_has_params l
has_params (const c ls) = list_has_params ls
has_params (app f a) = has_params f || has_params a
has_params (lam A b) = has_params A || has_params b
has_params (pi A B) = has_params A || has_params B
has_params (let_in A v b) = has_params A || (has_params v || has_params b)
has_params (proj S i s) = has_params s
has_params (local k T) = has_params T
has_params _ = false

-- what is kept of a tree
pub record AreMarks (t : Tree) (marks : Marks) : Type 0 where
  pub loose_is : marks.loose ≡ loose t
  pub local_is : marks.local ≡ bound t
  pub params_is : marks.params ≡ has_params t
  pub narrow_is : marks.narrow ≡ is_narrow t
