use Rattle.std.proofs.Common.{◌≡◌}
use Rattle.lk_store.specs.Contents.{tree_at, Extends}
use Rattle.lk_chain.proofs.Pushing.{IsPushing, lets_in}
use Rattle.lk_chain.proofs.lets.pushed_lets.Given as goal

abbrev pub invariant-lets : goal.invariant-lets
invariant-lets g l =
    let contents = g.L.Terms.contents in
    record {
      keeps : Extends (contents l.fn.looks) (contents l.looks);
      stays : g.L.Terms.rest l.looks ≡ g.L.Terms.rest l.fn.looks;
      pushing : IsPushing (contents l.fn.looks) (contents l.looks) l.fn.e l.heads.items l.values.items l.inside;
    }

abbrev pub decreases-lets : goal.decreases-lets
decreases-lets g l = lets_in (tree_at (g.L.Terms.contents l.looks) l.inside)
