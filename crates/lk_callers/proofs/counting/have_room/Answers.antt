use Rattle.std.proofs.Common.{◌+◌, subst, sym, arith, ℕ, List}
use Rattle.lk_session.specs.Texts.{IsFaultless}
use Rattle.lk_callers.specs.Owned.{bytes_in}
use Rattle.lk_callers.proofs.Calls.{text_is, text_faultless}
use Rattle.lk_callers.proofs.Counts.{count_more, some_fewer}
use Rattle.lk_callers.proofs.counting.have_room.Goals as goal

pub units_in-requires : goal.units_in-requires
units_in-requires g c =
    let is = text_is c.args.texts.now c.loop-text.text-index c.text-item.result c.as_slice.result.now c.loop-text-test.true c.text-item.is c.as_slice.ensures.value in
    subst (λ (t : List ℕ). IsFaultless g.T.Reads.stated t) (sym is) (text_faultless g.T.Reads.stated c.args.texts.now c.loop-text.text-index c.requires c.loop-text-test.true)

pub returns-then-count-units : goal.returns-then-count-units
returns-then-count-units g c =
    let is = text_is c.args.texts.now c.loop-text.text-index c.text-item.result c.as_slice.result.now c.loop-text-test.true c.text-item.is c.as_slice.ensures.value in
    let more = count_more g.T.Reads.stated c.args.texts.now c.loop-text.text-index c.loop-text.units c.in_ok-count.count c.as_slice.result.now c.loop-text-test.true is c.in_ok-count.ensures c.loop-text.invariant.0 in
    let fewer = some_fewer g.T.Reads.stated (bytes_in c.args.texts.now) (c.loop-text.text-index + 1) in
    let many = c.if-count-units.true in
    omega arith

pub loop-text-preserved : goal.loop-text-preserved
loop-text-preserved g c =
    let is = text_is c.args.texts.now c.loop-text.text-index c.text-item.result c.as_slice.result.now c.loop-text-test.true c.text-item.is c.as_slice.ensures.value in
    let few = c.if-count-units.false in
    let room = c.loop-text.invariant.1 in (
      count_more g.T.Reads.stated c.args.texts.now c.loop-text.text-index c.loop-text.units c.in_ok-count.count c.as_slice.result.now c.loop-text-test.true is c.in_ok-count.ensures c.loop-text.invariant.0,
      omega arith,
    )
