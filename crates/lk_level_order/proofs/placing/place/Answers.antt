use Rattle.std.proofs.Common.{rules, ◌≡◌, ◌++◌, ◌∷◌, []}
use Rattle.lk_subst.proofs.LevelCosts.{popped_less, popped_known}
use Rattle.lk_level_order.specs.declared.placing.PlacedLevel.{PlacedLevel}
use Rattle.lk_level_order.proofs.Placed.{placed_push}
use Rattle.lk_level_order.proofs.placing.place.Goals as goal

pub walk-preserved-in-Continue-branch-3 : goal.walk-preserved-in-Continue-branch-3
walk-preserved-in-Continue-branch-3 g c =
    let t = g.T.Terms.contents c.args.terms.now in
    let row : PlacedLevel = record { level = c.in-Some.visit.level; node = c.in_ok-node.node } in
    let pushed : c.push-then-visit.new.self ≡ c.walk.parts ++ row ∷ [] = search rules in
    let node = c.in_ok-node.ensures in
    record {
      placed = rw pushed (placed_push t c.args.names.now c.walk.parts row c.walk.invariant.placed (node.known, node.level));
      stacked = (popped_known t c.walk.stack.items c.pop.new.self.items c.in-Some.visit (search rules) c.walk.invariant.stacked).0;
    }

pub open-requires-clause-visits : goal.open-requires-clause-visits
open-requires-clause-visits g c = (popped_known (g.T.Terms.contents c.args.terms.now) c.walk.stack.items c.pop.new.self.items c.in-Some.visit (search rules) c.walk.invariant.stacked).0

pub walk-smaller : goal.walk-smaller
walk-smaller g c = popped_less (g.T.Terms.contents c.args.terms.now) c.walk.stack.items c.pop.new.self.items c.in-Some.visit (search rules)

pub walk-preserved : goal.walk-preserved
walk-preserved g c =
    record {
      placed = c.walk.invariant.placed;
      stacked = (popped_known (g.T.Terms.contents c.args.terms.now) c.walk.stack.items c.pop.new.self.items c.in-Some.visit (search rules) c.walk.invariant.stacked).0;
    }
