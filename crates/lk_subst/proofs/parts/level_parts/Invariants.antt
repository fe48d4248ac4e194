use Rattle.lk_subst.specs.Parts.{AreMet, AreVisits, visits_cost}
use Rattle.lk_subst.proofs.parts.level_parts.Given as goal

abbrev pub invariant-walk : goal.invariant-walk
invariant-walk g l =
    let c = g.T.Terms.contents l.terms in
    record {
      met_known : AreMet c l.met;
      stacked : AreVisits c l.stack.items;
    }

abbrev pub decreases-walk : goal.decreases-walk
decreases-walk g l = visits_cost (g.T.Terms.contents l.terms) l.stack.items
