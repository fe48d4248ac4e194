use Rattle.std.proofs.Common.{◌≡◌, ◌∙◌, length, map, subst, rules, arith}
use Rattle.std.specs.List.{range_with_len}
use Rattle.lk_env.specs.Units.{library_of}
use Rattle.lk_trace.specs.Files.{sections_of}
use Rattle.lk_trace.specs.Outcomes.{outcome_at}
use Rattle.lk_written.specs.Outcomes.{outcome_of}
use Rattle.leancheck.proofs.Sections.{unit_below, as_many_units, one_more}
use Rattle.leancheck.proofs.replaying.replay_units.Goals as goal

pub replay_unit-requires-clause-number_in : goal.replay_unit-requires-clause-number_in
replay_unit-requires-clause-number_in g c =
    unit_below c.args.traced.now.library c.units-units.result.now c.units-units.ensures.value c.loop-n.n c.loop-n-test.true

pub loop-n-preserved : goal.loop-n-preserved
loop-n-preserved g c =
    let t = c.args.traced.now in
    one_more (library_of t.library) (sections_of t) c.loop-n.n c.loop-n.outcomes.items c.push.new.self.items c.in_ok-outcome.outcome c.loop-n.invariant c.in_ok-outcome.ensures.is (search rules)

pub returns : goal.returns
returns g c =
    let t = c.args.traced.now in
    let n_is : c.loop-n.n ≡ length c.units-units.result.now = omega (arith, c.loop-n-test.false, c.loop-n.auto.n-end) in
    subst (λ n. map outcome_at c.loop-n.outcomes.items ≡ map (outcome_of (library_of t.library) (sections_of t)) (range_with_len 0 n))
    (n_is ∙ as_many_units t.library c.units-units.result.now c.units-units.ensures.value) c.loop-n.invariant
