use Rattle.std.proofs.Common.{◌≡◌, ◌<◌, length, map, All}
use Rattle.lk_inductive.specs.Nested.{past_pis}
use Rattle.lk_store.specs.Contents.{tree_at, Extends}
use Rattle.lk_auxiliary.proofs.past.past_pis.Given as goal

abbrev pub invariant-values : goal.invariant-values
invariant-values g l =
    let before = g.T.Terms.contents l.fn.terms in
    let now = g.T.Terms.contents l.terms in
    record {
      keeps : Extends before now;
      same_rest : g.T.Terms.rest l.terms ≡ g.T.Terms.rest l.fn.terms;
      rest_in : All (λ x. x < length before.trees) l.rest;
      at_in : l.at < length now.trees;
      leads : past_pis (map (tree_at before) l.fn.values) (tree_at before l.fn.e) ≡ past_pis (map (tree_at before) l.rest) (tree_at now l.at);
    }

abbrev pub decreases-values : goal.decreases-values
decreases-values g l = length l.rest
