use Rattle.std.proofs.Common.{◌≤◌, arith}
use Rattle.lk_level_order.specs.Values.{digits}
use Rattle.lk_level_order.specs.Cases.{IsTestedOf}
use Rattle.lk_level_order.proofs.Listed.{listed_more}
use Rattle.lk_level_order.proofs.cases.listed_hold.Goals as goal

pub loop-i-preserved : goal.loop-i-preserved
loop-i-preserved c d order few =
    listed_more c.args.rows.now c.args.cases.first c.loop-i.i c.get.result.now (λ case. IsTestedOf d c.args.question c.args.rights (digits c.args.count case))
    c.get.ensures (c.loop-i.invariant d order few) (c.in_ok-holds.ensures.yes c.if-not-holds.false d order few)

pub returns-clause-yes : goal.returns-clause-yes
returns-clause-yes c e d order few case h =
    let past : c.args.cases.end ≤ c.loop-i.i = c.loop-i-test.false in
    let before = h.before in
    c.loop-i.invariant d order few case (record { place = h.place; after = h.after; before = omega arith; known = h.known; is = h.is })
