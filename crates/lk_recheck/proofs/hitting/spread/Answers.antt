use Rattle.std.proofs.Common.{rules, ◌≡◌, ◌++◌, [], ◌∷◌}
use Rattle.lk_recheck.specs.Counts.{room_by}
use Rattle.lk_recheck.proofs.Spreading.{step_within, stepped, stepped_less, spread_ends}
use Rattle.lk_recheck.proofs.hitting.spread.Goals as goal

pub waiting-preserved : goal.waiting-preserved
waiting-preserved c =
    let popped : c.waiting.hits.waiting.items ≡ c.pop.new.self.items ++ c.in-Some.thing ∷ [] = search rules in
    record {
      within = step_within (room_by c.args.counts.now) c.args.sources.now c.args.units c.waiting.hits c.pop.new.self c.in-Some.thing popped c.pass_if_open.new.hits c.in_ok-pass_if_open.ensures c.waiting.invariant.within;
      spreading = λ changed u.
          stepped (room_by c.args.counts.now) c.args.sources.now c.args.units c.waiting.hits c.pop.new.self c.in-Some.thing popped c.pass_if_open.new.hits c.in_ok-pass_if_open.ensures changed (c.waiting.invariant.spreading changed u);
    }

pub waiting-smaller : goal.waiting-smaller
waiting-smaller c =
    let popped : c.waiting.hits.waiting.items ≡ c.pop.new.self.items ++ c.in-Some.thing ∷ [] = search rules in
    stepped_less (room_by c.args.counts.now) c.args.sources.now c.args.units c.waiting.hits c.pop.new.self c.in-Some.thing popped c.pass_if_open.new.hits c.in_ok-pass_if_open.ensures

pub returns-clause-spread : goal.returns-clause-spread
returns-clause-spread c =
    let before : c.waiting.hits.waiting.items ≡ [] = search rules in
    let after : c.pop.new.self.items ≡ [] = search rules in
    λ changed u. spread_ends (room_by c.args.counts.now) c.args.sources.now c.args.units c.waiting.hits c.pop.new.self before after changed (c.waiting.invariant.spreading changed u)
