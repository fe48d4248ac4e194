use Rattle.std.proofs.Common.{◌≡◌, ◌<◌, length, map, ap, sym, ◌∙◌, arith}
use Rattle.lk_env.specs.Units.{library_of}
use Rattle.lk_verdict.specs.Held.{verdict}
use Rattle.lk_text.specs.Policy.{every_axiom, all_under}
use Rattle.lk_text.proofs.Marked.{one_more}
use Rattle.lk_text.proofs.Refusing.{every_stays}
use Rattle.lk_text.proofs.under.apply.Goals as goal

pub returns-then-allows_every : goal.returns-then-allows_every
returns-then-allows_every c =
    let us = library_of c.args.library.now in
    let vs = map verdict c.args.verdicts.now in
    let e : c.args.policy.now ≡ every_axiom = c.allows_every.ensures.0 c.if-allows_every.true in
    sym (ap (λ p. all_under p us 0 vs) e ∙ every_stays us 0 vs)

pub loop-unit-preserved : goal.loop-unit-preserved
loop-unit-preserved c =
    let us = library_of c.args.library.now in
    let h = c.under.ensures c.args.policy.now (c.deref.ensures.value ∙ c.in_ok-marks.ensures) in
    let few : c.loop-unit.unit < length c.loop-unit.verdicts = omega arith in
    one_more c.args.policy.now us c.args.verdicts.now c.loop-unit.verdicts c.loop-unit.unit _ c.under.result few h c.loop-unit.invariant
