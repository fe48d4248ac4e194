-- The parts of trees in which level parameters may stand.
use Rattle.std.specs.Prelude.{ℕ, ◌<◌, List, [], ◌∷◌, length, Bool}
use Rattle.lk_tree.specs.Tree.{Name}
use Rattle.lk_tree.specs.Scan.{level_over, levels_over, tree_over}
use Rattle.lk_store.specs.Contents.{Contents, level_at, list_at, tree_at}
use Rattle.lk_store.specs.Measures.{level_has_params, list_has_params, has_params}
use Rattle.lk_store.specs.Hashes.{hash_of_pair}
use Rattle.lk_store.specs.declared.node.LevelNode.{LevelNode}
use Rattle.lk_store.specs.declared.node.LevelNode.TheVariants as level
use Rattle.lk_store.specs.declared.node.ListNode.{ListNode}
use Rattle.lk_store.specs.declared.node.ListNode.TheVariants.{Empty, Cons}
use Rattle.lk_store.specs.declared.node.Node.{Node}
use Rattle.lk_store.specs.declared.node.Node.TheVariants as node
use Rattle.lk_seek.specs.Costs.{level_cost, levels_cost, tree_cost}
use Rattle.lk_scan.specs.declared.part.TermPart.{TermPart}
use Rattle.lk_scan.specs.declared.part.TermPart.TheVariants as part

abbrev pub hash_of : ℕ → TermPart → ℕ
hash_of seed (part.Tree e) = hash_of_pair seed e 0
hash_of seed (part.Level l) = hash_of_pair seed l 1
hash_of seed (part.Levels ls) = hash_of_pair seed ls 2

-- the parts of a node, from the last to the first
abbrev pub parts_of : Node → List TermPart
parts_of (node.Sort l) = part.Level l ∷ []
parts_of (node.Const n ls) = part.Levels ls ∷ []
parts_of (node.App f a) = part.Tree a ∷ part.Tree f ∷ []
parts_of (node.Lam A b) = part.Tree b ∷ part.Tree A ∷ []
parts_of (node.Pi A B) = part.Tree B ∷ part.Tree A ∷ []
parts_of (node.Let A v b) = part.Tree b ∷ part.Tree v ∷ part.Tree A ∷ []
parts_of (node.Proj S i s) = part.Tree s ∷ []
parts_of (node.Local k T) = part.Tree T ∷ []
parts_of _ = []

abbrev pub parts_of_level : LevelNode → List TermPart
parts_of_level (level.Succ l) = part.Level l ∷ []
parts_of_level (level.Max l m) = part.Level m ∷ part.Level l ∷ []
parts_of_level (level.IMax l m) = part.Level m ∷ part.Level l ∷ []
parts_of_level _ = []

abbrev pub parts_of_list : ListNode → List TermPart
parts_of_list Empty = []
parts_of_list (Cons l ls) = part.Levels ls ∷ part.Level l ∷ []

-- the part is a number of the store
abbrev pub IsPartIn : Contents → TermPart → Type 0
IsPartIn c (part.Tree e) = e < length c.trees
IsPartIn c (part.Level l) = l < length c.levels
IsPartIn c (part.Levels ls) = ls < length c.lists

-- each level parameter of the part is one of these names
abbrev pub part_over : Contents → List Name → TermPart → Bool
part_over c ps (part.Tree e) = tree_over ps (tree_at c e)
part_over c ps (part.Level l) = level_over ps (level_at c l)
part_over c ps (part.Levels ls) = levels_over ps (list_at c ls)

-- whether a level parameter stands in the part
abbrev pub part_has_params : Contents → TermPart → Bool
part_has_params c (part.Tree e) = has_params (tree_at c e)
part_has_params c (part.Level l) = level_has_params (level_at c l)
part_has_params c (part.Levels ls) = list_has_params (list_at c ls)

-- a bound on the turns that its own parts take
abbrev pub part_cost : Contents → TermPart → ℕ
part_cost c (part.Tree e) = tree_cost (tree_at c e)
part_cost c (part.Level l) = level_cost (level_at c l)
part_cost c (part.Levels ls) = levels_cost (list_at c ls)
