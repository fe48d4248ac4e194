use Rattle.lk_subst.specs.Parts.{AreVisits, visits_cost}
use Rattle.lk_level_order.specs.Placing.{ArePlaced}
use Rattle.lk_level_order.proofs.placing.place.Given as goal

abbrev pub invariant-walk : goal.invariant-walk
invariant-walk g l =
    let c = g.T.Terms.contents l.terms in
    record {
      placed : ArePlaced c l.names l.parts;
      stacked : AreVisits c l.stack.items;
    }

abbrev pub decreases-walk : goal.decreases-walk
decreases-walk g l = visits_cost (g.T.Terms.contents l.terms) l.stack.items
