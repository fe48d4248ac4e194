use Rattle.std.proofs.Common.{◌≡◌, ◌<◌, length, map, All}
use Rattle.lk_store.specs.Contents.{tree_at, Extends}
use Rattle.lk_recursor.specs.Binders.{over_domains}
use Rattle.lk_recursor.proofs.binders.over_domains.Given as goal

abbrev pub invariant-domains : goal.invariant-domains
invariant-domains g l =
    let before = g.T.Terms.contents l.fn.terms in
    let now = g.T.Terms.contents l.terms in
    record {
      keeps : Extends before now;
      same_rest : g.T.Terms.rest l.terms ≡ g.T.Terms.rest l.fn.terms;
      left_in : All (λ x. x < length before.trees) l.left;
      made_in : l.made < length now.trees;
      leads : over_domains l.binder (map (tree_at before) l.left) (tree_at now l.made) ≡ over_domains l.binder (map (tree_at before) l.fn.domains) (tree_at before l.fn.e);
    }

abbrev pub decreases-domains : goal.decreases-domains
decreases-domains g l = length l.left
