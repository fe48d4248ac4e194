use Rattle.std.proofs.Common.{◌≡◌, false, map, length, get_or, subst, arith}
use Rattle.std.proofs.lemmas.Option.{slice_get-get_or}
use Rattle.lk_verdict.specs.Held.{verdict}
use Rattle.lk_recheck.specs.Plans.{IsPlanTo}
use Rattle.lk_recheck.proofs.Plans.{none_planned, one_planned}
use Rattle.lk_recheck.proofs.recheck.plan_of.Goals as goal

pub loop-i-init : goal.loop-i-init
loop-i-init c = rw (c.new.ensures.items, c.new-2.ensures.items) (none_planned c.args.stale.now (map verdict c.args.verdicts.now))

pub loop-i-preserved : goal.loop-i-preserved
loop-i-preserved c =
    let before = map verdict c.args.verdicts.now in
    one_planned c.args.stale.now before c.loop-i.i c.loop-i.plan.numbers.items c.add_unit.new.plan.numbers.items
    (map verdict c.loop-i.plan.verdicts.items) (map verdict c.add_unit.new.plan.verdicts.items)
    (get_or c.args.stale.now c.loop-i.i false) (verdict c.kept_verdict.result)
    (slice_get-get_or c.args.stale.now c.loop-i.i false c.loop-i-test.true) c.kept_verdict.ensures
    c.in_ok-add_unit.ensures c.loop-i.invariant

pub returns-clause-plan : goal.returns-clause-plan
returns-clause-plan c =
    let e : c.loop-i.i ≡ length c.args.stale.now = omega (arith, c.loop-i-test.false, c.loop-i.auto.i-end) in
    subst (λ i. IsPlanTo c.args.stale.now (map verdict c.args.verdicts.now) i c.loop-i.plan.numbers.items (map verdict c.loop-i.plan.verdicts.items)) e c.loop-i.invariant
