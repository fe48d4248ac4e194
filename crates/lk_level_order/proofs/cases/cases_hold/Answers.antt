use Rattle.std.proofs.Common.{◌<◌, arith}
use Rattle.lk_level_order.proofs.Asked.{cases_more, few_cases}
use Rattle.lk_level_order.proofs.cases.cases_hold.Goals as goal

pub loop-case-preserved : goal.loop-case-preserved
loop-case-preserved c =
    cases_more c.args.parts.now c.args.question c.args.rights c.args.count c.loop-case.case (c.in_ok-holds.ensures.yes c.if-not-holds.false) c.loop-case.invariant

pub returns-clause-yes : goal.returns-clause-yes
returns-clause-yes c e d order few case below =
    let past = c.loop-case-test.false in
    let few_of = few_cases c.args.rights c.requires in
    let met : case < c.loop-case.case = omega arith in
    c.loop-case.invariant d order few case met
