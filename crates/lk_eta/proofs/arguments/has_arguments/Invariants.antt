use Rattle.std.proofs.Common.{◌≡◌, ◌<◌, length, nat_eq}
use Rattle.lk_tree.specs.Spine.{args}
use Rattle.lk_store.specs.Contents.{tree_at}
use Rattle.lk_eta.proofs.arguments.has_arguments.Given as goal

abbrev pub invariant-down : goal.invariant-down
invariant-down g l =
    let c = g.T.Terms.contents l.terms in
    record {
      known : l.at < length c.trees;
      same : nat_eq (length (args (tree_at c l.at))) l.left ≡ nat_eq (length (args (tree_at c l.e))) l.count;
    }

abbrev pub decreases-down : goal.decreases-down
decreases-down g l = l.left
