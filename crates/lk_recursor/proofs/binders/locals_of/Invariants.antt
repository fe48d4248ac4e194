use Rattle.std.proofs.Common.{◌≡◌, ◌<◌, ◌++◌, length, map, All}
use Rattle.lk_store.specs.Contents.{tree_at, Extends}
use Rattle.lk_inductive.specs.Recursors.{locals_from}
use Rattle.lk_recursor.proofs.binders.locals_of.Given as goal

abbrev pub invariant-domains : goal.invariant-domains
invariant-domains g l =
    let before = g.T.Terms.contents l.fn.terms in
    let now = g.T.Terms.contents l.terms in
    record {
      keeps : Extends before now;
      same_rest : g.T.Terms.rest l.terms ≡ g.T.Terms.rest l.fn.terms;
      left_in : All (λ x. x < length before.trees) l.left;
      locals_in : All (λ x. x < length now.trees) l.locals.items;
      leads : map (tree_at now) l.locals.items ++ locals_from l.number (map (tree_at before) l.left) ≡ locals_from l.fn.first (map (tree_at before) l.fn.domains);
    }

abbrev pub decreases-domains : goal.decreases-domains
decreases-domains g l = length l.left
