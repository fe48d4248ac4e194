use Rattle.std.proofs.Common.{rules, ◌≡◌, ◌<◌, ◌++◌, ◌∷◌, [], length}
use Rattle.std.proofs.lemmas.List.Elements.{All-push}
use Rattle.lk_subst.specs.declared.parts.Met.{Met}
use Rattle.lk_subst.proofs.LevelCosts.{popped_less, popped_known}
use Rattle.lk_subst.proofs.parts.level_parts.Goals as goal

pub walk-preserved-in-Continue-branch-2 : goal.walk-preserved-in-Continue-branch-2
walk-preserved-in-Continue-branch-2 g c =
    let t = g.T.Terms.contents c.args.terms.now in
    let known = popped_known t c.walk.stack.items c.pop.new.self.items c.in-Some.visit (search rules) c.walk.invariant.stacked in
    let row : Met = record { level = c.in-Some.visit.level } in
    let pushed : c.push-then-visit.new.self ≡ c.walk.met ++ row ∷ [] = search rules in
    record {
      met_known = rw pushed (All-push (λ (m : Met). m.level < length t.levels) c.walk.met row c.walk.invariant.met_known known.1);
      stacked = known.0;
    }

pub open-requires-clause-visits : goal.open-requires-clause-visits
open-requires-clause-visits g c = (popped_known (g.T.Terms.contents c.args.terms.now) c.walk.stack.items c.pop.new.self.items c.in-Some.visit (search rules) c.walk.invariant.stacked).0

pub walk-smaller : goal.walk-smaller
walk-smaller g c = popped_less (g.T.Terms.contents c.args.terms.now) c.walk.stack.items c.pop.new.self.items c.in-Some.visit (search rules)

pub walk-preserved : goal.walk-preserved
walk-preserved g c =
    record {
      met_known = c.walk.invariant.met_known;
      stacked = (popped_known (g.T.Terms.contents c.args.terms.now) c.walk.stack.items c.pop.new.self.items c.in-Some.visit (search rules) c.walk.invariant.stacked).0;
    }
