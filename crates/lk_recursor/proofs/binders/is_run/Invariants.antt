use Rattle.std.proofs.Common.{◌<◌, length, map, All}
use Rattle.lk_store.specs.Contents.{tree_at}
use Rattle.lk_recursor.proofs.RunLists.{RunsOn}
use Rattle.lk_recursor.proofs.binders.is_run.Given as goal

abbrev pub invariant-locals : goal.invariant-locals
invariant-locals g l =
    let c = g.T.Terms.contents l.terms in
    record {
      left_in : All (λ x. x < length c.trees) l.left;
      runs : RunsOn l.first (map (tree_at c) l.left) (map (tree_at c) l.fn.locals);
    }

abbrev pub decreases-locals : goal.decreases-locals
decreases-locals g l = length l.left
