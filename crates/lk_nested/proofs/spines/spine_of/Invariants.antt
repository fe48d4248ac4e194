use Rattle.std.proofs.Common.{◌≡◌, ◌<◌, ◌+◌, length}
use Rattle.lk_tree.specs.Spine.{head, args}
use Rattle.lk_store.specs.Contents.{tree_at}
use Rattle.lk_spine.specs.Reading.{left_depth}
use Rattle.lk_nested.proofs.spines.spine_of.Given as goal

abbrev pub invariant-down : goal.invariant-down
invariant-down g l =
    let c = g.T.Terms.contents l.terms in
    record {
      at_in : l.at < length c.trees;
      same_head : head (tree_at c l.fn.e) ≡ head (tree_at c l.at);
      counted : length (args (tree_at c l.fn.e)) ≡ l.count + length (args (tree_at c l.at));
    }

abbrev pub decreases-down : goal.decreases-down
decreases-down g l = left_depth (tree_at (g.T.Terms.contents l.terms) l.at)
