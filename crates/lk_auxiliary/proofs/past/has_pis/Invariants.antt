use Rattle.std.proofs.Common.{◌≡◌, ◌<◌, length}
use Rattle.lk_inductive.specs.Nested.{has_pis}
use Rattle.lk_store.specs.Contents.{tree_at}
use Rattle.lk_auxiliary.proofs.past.has_pis.Given as goal

abbrev pub invariant-pis : goal.invariant-pis
invariant-pis g l =
    let c = g.T.Terms.contents l.terms in
    record {
      rest_in : l.rest < length c.trees;
      same : has_pis l.fn.count (tree_at c l.fn.e) ≡ has_pis l.left (tree_at c l.rest);
    }

abbrev pub decreases-pis : goal.decreases-pis
decreases-pis g l = l.left
