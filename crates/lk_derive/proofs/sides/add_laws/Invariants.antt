use Rattle.std.proofs.Common.{◌≡◌, length}
use Rattle.lk_derive.proofs.PairsMade.{IsMaking}
use Rattle.lk_derive.proofs.sides.add_laws.Given as goal

abbrev pub invariant-laws : goal.invariant-laws
invariant-laws g l =
    let start = g.T.Terms.contents l.fn.terms in
    record {
      rest_stays : g.T.Terms.rest l.terms ≡ g.T.Terms.rest l.fn.terms;
      making : IsMaking start (g.T.Terms.contents l.terms) l.fn.value l.fn.sides.items l.sides.items l.fn.laws l.rest;
    }

abbrev pub decreases-laws : goal.decreases-laws
decreases-laws g l = length l.rest
