-- Bounds on the turns of a walk that the parts of a level, of levels and of a tree take.
use Rattle.std.specs.Prelude.{ℕ, ◌+◌, List, [], ◌∷◌}
use Rattle.lk_tree.specs.Tree.{Level, succ_level, max_level, imax_level, Tree, sort, const, app, lam, pi, let_in, proj, local}

abbrev pub level_cost : Level → ℕ
level_cost (succ_level l) = level_cost l + 2
level_cost (max_level l m) = level_cost l + level_cost m + 3
level_cost (imax_level l m) = level_cost l + level_cost m + 3
level_cost _ = 1

abbrev pub levels_cost : List Level → ℕ
levels_cost [] = 1
levels_cost (l ∷ ls) = level_cost l + levels_cost ls + 3

abbrev pub tree_cost : Tree → ℕ
tree_cost (sort l) = level_cost l + 2
tree_cost (const c ls) = levels_cost ls + 2
tree_cost (app f a) = tree_cost f + tree_cost a + 3
tree_cost (lam A b) = tree_cost A + tree_cost b + 3
tree_cost (pi A B) = tree_cost A + tree_cost B + 3
tree_cost (let_in A v b) = tree_cost A + tree_cost v + tree_cost b + 4
tree_cost (proj S i s) = tree_cost s + 2
tree_cost (local k T) = tree_cost T + 2
tree_cost _ = 1
