use Rattle.lk_needs.specs.Things.{own_things}
use Rattle.lk_needs.proofs.Lists.{one_list_more}
use Rattle.lk_needs.proofs.listing.push_own.Goals as goal

pub loop-t-preserved : goal.loop-t-preserved
loop-t-preserved c =
    one_list_more (own_things c.args.plain.now) c.args.things.now.items c.loop-t.things.items c.push_names.new.things.items c.args.types.now c.loop-t.t-index c.t-item.result
    c.loop-t-test.true c.t-item.is c.loop-t.invariant (rw c.of.ensures at c.in_ok-push_names.ensures)
