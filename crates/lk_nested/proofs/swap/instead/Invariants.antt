use Rattle.std.proofs.Common.{◌≡◌, length}
use Rattle.lk_store.specs.Contents.{tree_at}
use Rattle.lk_nested.specs.Pairs.{pairs_at, ArePairsIn}
use Rattle.lk_nested.specs.Swaps.{instead}
use Rattle.lk_nested.proofs.swap.instead.Given as goal

abbrev pub invariant-pairs : goal.invariant-pairs
invariant-pairs g l =
    let c = g.T.Terms.contents l.terms in
    record {
      rest_in : ArePairsIn c l.rest;
      same : instead (pairs_at c l.fn.pairs) (tree_at c l.fn.e) ≡ instead (pairs_at c l.rest) (tree_at c l.fn.e);
    }

abbrev pub decreases-pairs : goal.decreases-pairs
decreases-pairs g l = length l.rest
