use Rattle.std.proofs.Common.{rules, ◌≡◌, ◌++◌, ◌∷◌, []}
use Rattle.std.proofs.lemmas.Result.{on_ok_weaker}
use Rattle.lk_level_order.specs.Parameters.{names_of, with_names}
use Rattle.lk_level_order.specs.Gathering.{wanted_of}
use Rattle.lk_level_order.proofs.Gathered.{met_within, turn_popped, turn_less, gathers_more, gathered_more}
use Rattle.lk_level_order.proofs.Ordered.{order_closed, order_opened, order_skipped}
use Rattle.lk_level_order.proofs.gathering.gather.Goals as goal

pub walk-preserved-in-Continue-branch-3 : goal.walk-preserved-in-Continue-branch-3
walk-preserved-in-Continue-branch-3 g c =
    let t = g.T.Terms.contents c.args.terms.now in
    let side = c.in-Some.turn.side in
    let all = wanted_of t c.args.root in
    let popped = turn_popped t all c.walk.stack.items c.pop.new.self.items c.in-Some.turn (search rules) c.walk.invariant.stacked in
    let pushed : c.push-then-turn.new.self ≡ c.walk.met ++ side ∷ [] = search rules in
    let closed = c.in_ok-close.ensures in
    record {
      gathers = gathers_more t all (wanted_of t side) c.args.names.now c.walk.names c.close.new.names c.walk.invariant.gathers closed.gathers popped.1.1;
      gathered = rw pushed (gathered_more t (wanted_of t side) c.walk.names c.close.new.names c.walk.met side closed.gathers c.walk.invariant.gathered (closed.complete c.walk.invariant.gathered));
      stacked = popped.0;
      order = λ are. order_closed t c.walk.names c.walk.stack.items c.pop.new.self.items c.in-Some.turn (with_names (names_of t c.args.names.now) all) (search rules) (c.walk.invariant.order are)
          c.close.new.names c.if-turn.true (closed.order (c.walk.invariant.gathers.fine are));
    }

pub walk-preserved-in-Continue-branch-4 : goal.walk-preserved-in-Continue-branch-4
walk-preserved-in-Continue-branch-4 g c =
    let t = g.T.Terms.contents c.args.terms.now in
    let all = wanted_of t c.args.root in
    let popped = turn_popped t all c.walk.stack.items c.pop.new.self.items c.in-Some.turn (search rules) c.walk.invariant.stacked in
    record {
      gathers = c.walk.invariant.gathers;
      gathered = c.walk.invariant.gathered;
      stacked = c.in_ok-open.ensures.turns all popped.0 popped.1.1;
      order = λ are. order_opened t c.walk.names c.walk.stack.items c.pop.new.self.items c.in-Some.turn (with_names (names_of t c.args.names.now) all) (search rules) (c.walk.invariant.order are)
          c.open.new.stack.items c.if-turn.false c.in_ok-open.ensures.order;
    }

pub walk-smaller : goal.walk-smaller
walk-smaller g c = turn_less (g.T.Terms.contents c.args.terms.now) c.walk.stack.items c.pop.new.self.items c.in-Some.turn (search rules)

pub walk-preserved : goal.walk-preserved
walk-preserved g c =
    let t = g.T.Terms.contents c.args.terms.now in
    let all = wanted_of t c.args.root in
    let popped = turn_popped t all c.walk.stack.items c.pop.new.self.items c.in-Some.turn (search rules) c.walk.invariant.stacked in
    record {
      gathers = c.walk.invariant.gathers;
      gathered = c.walk.invariant.gathered;
      stacked = popped.0;
      order = λ are. order_skipped t c.walk.names c.walk.stack.items c.pop.new.self.items c.in-Some.turn (with_names (names_of t c.args.names.now) all) (search rules) (c.walk.invariant.order are)
          c.walk.met c.if-turn.false (c.is_met.ensures c.if-not-is_met.false) c.walk.invariant.gathered;
    }

pub returns-clause-complete : goal.returns-clause-complete
returns-clause-complete g c =
    on_ok_weaker c.met_before.result (λ m. met_within (g.T.Terms.contents c.args.terms.now) c.walk.names c.walk.met c.args.root m c.walk.invariant.gathered) c.met_before.ensures
