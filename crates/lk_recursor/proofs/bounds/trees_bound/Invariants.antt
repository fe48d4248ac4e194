use Rattle.std.proofs.Common.{◌≡◌, ◌<◌, length, map, All}
use Rattle.std.specs.Prelude.{max}
use Rattle.lk_store.specs.Contents.{tree_at}
use Rattle.lk_inductive.specs.Recursors.{bounds}
use Rattle.lk_recursor.proofs.bounds.trees_bound.Given as goal

abbrev pub invariant-trees : goal.invariant-trees
invariant-trees g l =
    let c = g.T.Terms.contents l.terms in
    record {
      left_in : All (λ x. x < length c.trees) l.left;
      leads : max l.most (bounds (map (tree_at c) l.left)) ≡ bounds (map (tree_at c) l.fn.trees);
    }

abbrev pub decreases-trees : goal.decreases-trees
decreases-trees g l = length l.left
