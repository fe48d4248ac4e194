use Rattle.std.proofs.Common.{◌≤◌, arith}
use Rattle.lk_level_order.specs.Covers.{IsAmong}
use Rattle.lk_level_order.proofs.Listed.{listed_more}
use Rattle.lk_level_order.proofs.listing.has_all.Goals as goal

pub loop-i-preserved : goal.loop-i-preserved
loop-i-preserved c =
    listed_more c.args.rows.now c.args.other.first c.loop-i.i c.get.result.now (IsAmong c.args.rows.now c.args.cases) c.get.ensures c.loop-i.invariant
    (c.has_case.ensures c.if-not-has_case.false)

pub returns : goal.returns
returns c e case h =
    let past : c.args.other.end ≤ c.loop-i.i = c.loop-i-test.false in
    let before = h.before in
    c.loop-i.invariant case (record { place = h.place; after = h.after; before = omega arith; known = h.known; is = h.is })
