use Rattle.std.proofs.Common.{◌≡◌, ◌<◌, length, map, All}
use Rattle.lk_store.specs.Contents.{name_at}
use Rattle.lk_inductive.specs.BlockSteps.{same_names}
use Rattle.lk_block.proofs.counts.names_agree.Given as goal

abbrev pub invariant-names : goal.invariant-names
invariant-names g l =
    let c = g.T.Terms.contents l.terms in
    record {
      left_in : All (λ n. n < length c.names) l.left;
      right_in : All (λ n. n < length c.names) l.right;
      same : same_names (map (name_at c) l.first) (map (name_at c) l.second) ≡ same_names (map (name_at c) l.left) (map (name_at c) l.right);
    }

abbrev pub decreases-names : goal.decreases-names
decreases-names g l = length l.left
