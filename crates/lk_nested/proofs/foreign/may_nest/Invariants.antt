use Rattle.std.proofs.Common.{◌≡◌, ◌<◌, length, map, All}
use Rattle.lk_store.specs.Contents.{tree_at}
use Rattle.lk_inductive.specs.Nested.{may_nest}
use Rattle.lk_nested.specs.Foreign.{AreOwn}
use Rattle.lk_nested.proofs.foreign.may_nest.Given as goal

abbrev pub invariant-trees : goal.invariant-trees
invariant-trees g l =
    let c = g.T.Terms.contents l.terms in
    let ps = map (tree_at c) l.parameters in
    record {
      rest_in : All (λ x. x < length c.trees) l.rest;
      met : AreOwn ps c l.met;
      same : may_nest ps (map (tree_at c) l.trees) ≡ may_nest ps (map (tree_at c) l.rest);
    }

abbrev pub decreases-trees : goal.decreases-trees
decreases-trees g l = length l.rest
