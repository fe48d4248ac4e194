use Rattle.std.proofs.Common.{◌<◌, length, arith}
use Rattle.lk_level_order.proofs.Listed.{grows_trans, joined_more}
use Rattle.lk_level_order.proofs.listing.join.Goals as goal

pub loop-i-preserved : goal.loop-i-preserved
loop-i-preserved c =
    let base = c.args.rows.now in
    let old = c.loop-i.rows in
    let new = c.add_joined.new.rows in
    let kept = c.loop-i.invariant in
    let made = c.in_ok-add_joined.ensures in
    let test = c.loop-i-test.true in
    let within = c.requires.from_in in
    let below : c.loop-i.i < length base = omega arith in
    record {
      grows = grows_trans base old new kept.grows made.grows;
      joined = joined_more c.args.rights c.args.support base old new c.args.list c.args.from.first c.loop-i.i c.get.result.now kept.grows made.grows below c.get.ensures kept.joined made.joined;
    }
