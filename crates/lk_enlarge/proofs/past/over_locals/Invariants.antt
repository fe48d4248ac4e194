use Rattle.std.proofs.Common.{◌≡◌, ◌<◌, length, map, All}
use Rattle.lk_store.specs.Contents.{tree_at, Extends}
use Rattle.lk_inductive.specs.Recursors.{pis}
use Rattle.lk_enlarge.proofs.past.over_locals.Given as goal

abbrev pub invariant-locals : goal.invariant-locals
invariant-locals g l =
    let before = g.T.Terms.contents l.fn.terms in
    let now = g.T.Terms.contents l.terms in
    record {
      keeps : Extends before now;
      same_rest : g.T.Terms.rest l.terms ≡ g.T.Terms.rest l.fn.terms;
      left_in : All (λ x. x < length before.trees) l.left;
      made_in : l.made < length now.trees;
      leads : pis (map (tree_at before) l.left) (tree_at now l.made) ≡ pis (map (tree_at before) l.fn.locals) (tree_at before l.fn.e);
    }

abbrev pub decreases-locals : goal.decreases-locals
decreases-locals g l = length l.left
