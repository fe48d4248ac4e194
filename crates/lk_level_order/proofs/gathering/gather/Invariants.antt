use Rattle.std.proofs.Common.{◌≡◌}
use Rattle.lk_level_order.specs.Parameters.{AreParameters, Gathers, names_of, with_names}
use Rattle.lk_level_order.specs.Gathering.{wanted_of, AreGathered, AreTurns, turns_cost, turns_wanted}
use Rattle.lk_level_order.proofs.gathering.gather.Given as goal

abbrev pub invariant-walk : goal.invariant-walk
invariant-walk g l =
    let c = g.T.Terms.contents l.terms in
    record {
      gathers : Gathers c (wanted_of c l.root) l.initial.names l.names;
      gathered : AreGathered c l.names l.met;
      stacked : AreTurns c (wanted_of c l.root) l.stack.items;
      order : AreParameters c l.initial.names → with_names (names_of c l.names) (turns_wanted c l.stack.items) ≡ with_names (names_of c l.initial.names) (wanted_of c l.root);
    }

abbrev pub decreases-walk : goal.decreases-walk
decreases-walk g l = turns_cost (g.T.Terms.contents l.terms) l.stack.items
