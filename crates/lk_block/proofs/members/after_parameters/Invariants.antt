use Rattle.std.proofs.Common.{◌≡◌, ◌<◌, length, map, All}
use Rattle.lk_store.specs.Contents.{tree_at}
use Rattle.lk_inductive.specs.BlockSteps.{after_params}
use Rattle.lk_block.proofs.members.after_parameters.Given as goal

abbrev pub invariant-parameters : goal.invariant-parameters
invariant-parameters g l =
    let c = g.T.Terms.contents l.terms in
    record {
      left_in : All (λ x. x < length c.trees) l.left;
      right_in : All (λ x. x < length c.trees) l.right;
      same : after_params (map (tree_at c) l.parameters) (map (tree_at c) l.arguments) ≡ after_params (map (tree_at c) l.left) (map (tree_at c) l.right);
    }

abbrev pub decreases-parameters : goal.decreases-parameters
decreases-parameters g l = length l.left
