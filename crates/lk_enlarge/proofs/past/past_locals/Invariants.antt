use Rattle.std.proofs.Common.{◌≡◌, ◌<◌, length, map, All}
use Rattle.lk_store.specs.Contents.{tree_at, Extends}
use Rattle.lk_enlarge.proofs.Opening.{LeadsPast}
use Rattle.lk_enlarge.proofs.past.past_locals.Given as goal

abbrev pub invariant-parameters : goal.invariant-parameters
invariant-parameters g l =
    let before = g.T.Terms.contents l.fn.terms in
    let now = g.T.Terms.contents l.terms in
    record {
      keeps : Extends before now;
      same_rest : g.T.Terms.rest l.terms ≡ g.T.Terms.rest l.fn.terms;
      left_in : All (λ x. x < length before.trees) l.left;
      locals_in : All (λ x. x < length now.trees) l.locals.items;
      at_in : l.at < length now.trees;
      leads : LeadsPast (map (tree_at before) l.fn.parameters) (tree_at before l.fn.e) (map (tree_at now) l.locals.items) (map (tree_at before) l.left) (tree_at now l.at);
    }

abbrev pub decreases-parameters : goal.decreases-parameters
decreases-parameters g l = length l.left
