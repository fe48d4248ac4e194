use Rattle.std.proofs.Common.{◌≡◌, ◌<◌, length, map, All}
use Rattle.lk_store.specs.Contents.{tree_at, Extends}
use Rattle.lk_chain.specs.Pis.{pis_over}
use Rattle.lk_chain.proofs.domains.pis.Given as goal

abbrev pub invariant-domains : goal.invariant-domains
invariant-domains g l =
    let contents = g.L.Terms.contents in
    let began = contents l.fn.looks in
    let now = contents l.looks in
    record {
      keeps : Extends began now;
      stays : g.L.Terms.rest l.looks ≡ g.L.Terms.rest l.fn.looks;
      left_in : All (λ x. x < length began.trees) l.left;
      made_in : l.made < length now.trees;
      same : pis_over (map (tree_at began) l.left) (tree_at now l.made)
          ≡ pis_over (map (tree_at began) l.fn.domains) (tree_at began l.fn.ty);
    }

abbrev pub decreases-domains : goal.decreases-domains
decreases-domains g l = length l.left
