use Rattle.std.proofs.Common.{◌≡◌, ◌<◌, length, map, All}
use Rattle.lk_inductive.specs.BlockSteps.{is_among}
use Rattle.lk_store.specs.Contents.{tree_at}
use Rattle.lk_nested.proofs.foreign.is_among.Given as goal

abbrev pub invariant-others : goal.invariant-others
invariant-others g l =
    let s = g.T.Terms.contents l.terms in
    record {
      rest_in : All (λ x. x < length s.trees) l.rest;
      same : is_among (tree_at s l.fn.e) (map (tree_at s) l.fn.others) ≡ is_among (tree_at s l.fn.e) (map (tree_at s) l.rest);
    }

abbrev pub decreases-others : goal.decreases-others
decreases-others g l = length l.rest
