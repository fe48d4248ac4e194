use Rattle.std.proofs.Common.{◌≡◌, ◌<◌, length, map, All}
use Rattle.lk_store.specs.Contents.{tree_at, Extends}
use Rattle.lk_auxiliary.proofs.Pasts.{LeadsStated}
use Rattle.lk_auxiliary.proofs.past.stated_pis.Given as goal

abbrev pub invariant-pis : goal.invariant-pis
invariant-pis g l =
    let before = g.T.Terms.contents l.fn.terms in
    let now = g.T.Terms.contents l.terms in
    record {
      keeps : Extends before now;
      same_rest : g.T.Terms.rest l.terms ≡ g.T.Terms.rest l.fn.terms;
      locals_in : All (λ x. x < length now.trees) l.locals.items;
      rest_in : l.rest < length now.trees;
      leads : LeadsStated l.fn.first l.fn.count (tree_at before l.fn.e) (map (tree_at now) l.locals.items) l.number l.left (tree_at now l.rest);
    }

abbrev pub decreases-pis : goal.decreases-pis
decreases-pis g l = l.left
