-- Walks that write: what waits on the stack, its last visit on top.
use Rattle.std.specs.Prelude.{ℕ, ◌≡◌, ◌<◌, ◌+◌, List, [], ◌∷◌, ◌++◌, length}
use Rattle.lk_tree.specs.Tree.{Level, succ_level, max_level, imax_level}
use Rattle.lk_tree.specs.Tree.{Tree, app, lam, pi, let_in, proj, local}
use Rattle.lk_store.specs.Contents.{Contents, name_at, level_at, list_at, tree_at}
use Rattle.lk_store.specs.declared.node.LevelNode.{LevelNode}
use Rattle.lk_store.specs.declared.node.LevelNode.TheVariants as level
use Rattle.lk_store.specs.declared.node.Node.{Node}
use Rattle.lk_store.specs.declared.node.Node.TheVariants as node
use Rattle.lk_trim.specs.declared.visit.Visit.{Visit}
use Rattle.lk_trim.specs.declared.visit.Visit.TheVariants.{Enter, Leave}
use Rattle.lk_trim.specs.Written.{File}
use Rattle.lk_trim.specs.Names.{write_name}
use Rattle.lk_trim.specs.Levels.{add_level, write_level, write_levels}
use Rattle.lk_trim.specs.Trees.{add_tree, write_tree}

-- what is walked: how many parts there are, what is written of each, and the line of each
pub record Walk : Type 0 where
  pub size : ℕ
  pub writes : ℕ → File → File
  pub adds : ℕ → File → File
  pub cost : ℕ → ℕ

-- what is still to be written
abbrev pub rest_of : Walk → List Visit → File → File
rest_of w [] f = f
rest_of w (Enter e ∷ vs) f = w.writes e (rest_of w vs f)
rest_of w (Leave e ∷ vs) f = w.adds e (rest_of w vs f)

abbrev pub AreVisits : Walk → List Visit → Type 0
AreVisits w [] = Unit {0}
AreVisits w (Enter e ∷ vs) = (e < w.size) × AreVisits w vs
AreVisits w (Leave e ∷ vs) = (e < w.size) × AreVisits w vs

-- a bound on the turns that are left
abbrev pub turns : Walk → List Visit → ℕ
turns w [] = 0
turns w (Enter e ∷ vs) = w.cost e + turns w vs
turns w (Leave e ∷ vs) = 1 + turns w vs

-- a part is entered: what waits in its stead writes what is to be written of it
pub record IsEntered (w : Walk) (e : ℕ) (old new : List Visit) (f g : File) : Type 0 where
  pub pushed : List Visit
  pub is : new ≡ old ++ pushed
  pub known : AreVisits w pushed
  pub less : turns w pushed < w.cost e
  pub leads : rest_of w pushed g ≡ w.writes e f

-- Levels.
abbrev pub level_cost : Level → ℕ
level_cost (succ_level l) = level_cost l + 2
level_cost (max_level l m) = level_cost l + level_cost m + 2
level_cost (imax_level l m) = level_cost l + level_cost m + 2
level_cost _ = 2

abbrev pub level_walk : Contents → Walk
level_walk c = record {
  size = length c.levels;
  writes = λ l. write_level (level_at c l);
  adds = λ l. add_level (level_at c l);
  cost = λ l. level_cost (level_at c l);
}

-- the levels of a node, from the last to the first
abbrev pub level_parts : LevelNode → List ℕ
level_parts level.Zero = []
level_parts (level.Succ l) = l ∷ []
level_parts (level.Max l m) = m ∷ l ∷ []
level_parts (level.IMax l m) = m ∷ l ∷ []
level_parts (level.Param n) = []

-- the name of a node is written
abbrev pub level_label : Contents → LevelNode → File → File
level_label c (level.Param n) f = write_name (name_at c n) f
level_label c _ f = f

-- Trees.
abbrev pub tree_cost : Tree → ℕ
tree_cost (app f a) = tree_cost f + tree_cost a + 2
tree_cost (lam A b) = tree_cost A + tree_cost b + 2
tree_cost (pi A B) = tree_cost A + tree_cost B + 2
tree_cost (let_in A v b) = tree_cost A + tree_cost v + tree_cost b + 2
tree_cost (proj S i s) = tree_cost s + 2
tree_cost (local k T) = tree_cost T + 2
tree_cost _ = 2

abbrev pub tree_walk : Contents → Walk
tree_walk c = record {
  size = length c.trees;
  writes = λ e. write_tree (tree_at c e);
  adds = λ e. add_tree (tree_at c e);
  cost = λ e. tree_cost (tree_at c e);
}

-- the trees of a node, from the last to the first
abbrev pub tree_parts : Node → List ℕ
tree_parts (node.App f a) = a ∷ f ∷ []
tree_parts (node.Lam A b) = b ∷ A ∷ []
tree_parts (node.Pi A B) = B ∷ A ∷ []
tree_parts (node.Let A v b) = b ∷ v ∷ A ∷ []
tree_parts (node.Proj S i s) = s ∷ []
tree_parts (node.Local k T) = T ∷ []
tree_parts _ = []

-- the names and levels of a node are written
abbrev pub tree_label : Contents → Node → File → File
tree_label c (node.Sort l) f = write_level (level_at c l) f
tree_label c (node.Const n ls) f = write_levels (list_at c ls) (write_name (name_at c n) f)
tree_label c (node.Proj S i s) f = write_name (name_at c S) f
tree_label c _ f = f
