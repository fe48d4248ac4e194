use Rattle.std.proofs.Common.{◌≡◌, ◌<◌, length, map, All}
use Rattle.lk_tree.specs.Tree.{Tree}
use Rattle.lk_tree.specs.Spine.{apply}
use Rattle.lk_store.specs.Contents.{tree_at}
use Rattle.lk_replay_iota.proofs.fronts.front_of.Given as goal

abbrev pub invariant-down : goal.invariant-down
invariant-down g l =
    let c = g.T.Terms.contents l.terms in
    record {
      at_in : l.at < length c.trees;
      left_in : All (λ x. x < length c.trees) l.left;
      goes : (h : Tree) → tree_at c l.at ≡ apply h (map (tree_at c) l.left)
          → tree_at c l.fn.e ≡ apply h (map (tree_at c) l.fn.arguments);
      comes : (h : Tree) → tree_at c l.fn.e ≡ apply h (map (tree_at c) l.fn.arguments)
          → tree_at c l.at ≡ apply h (map (tree_at c) l.left);
    }

abbrev pub decreases-down : goal.decreases-down
decreases-down g l = length l.left
