use Rattle.std.proofs.Common.{◌≡◌, length}
use Rattle.lk_store.specs.Contents.{Extends}
use Rattle.lk_chain.proofs.Arguments.{IsGiven}
use Rattle.lk_chain.proofs.spines.pushed_type.Given as goal

abbrev pub invariant-arguments : goal.invariant-arguments
invariant-arguments g l =
    let contents = g.L.Terms.contents in
    record {
      keeps : Extends (contents l.fn.looks) (contents l.looks);
      stays : g.L.Terms.rest l.looks ≡ g.L.Terms.rest l.fn.looks;
      given : IsGiven (contents l.fn.looks) (contents l.looks) l.fn.ty l.fn.arguments l.left
          l.domains.items l.values.items l.inside;
    }

abbrev pub decreases-arguments : goal.decreases-arguments
decreases-arguments g l = length l.left
