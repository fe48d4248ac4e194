use Rattle.lk_needs.specs.Things.{recursor_things}
use Rattle.lk_needs.proofs.Lists.{one_list_more}
use Rattle.lk_needs.proofs.listing.push_recursors.Goals as goal

pub loop-r-preserved : goal.loop-r-preserved
loop-r-preserved c =
    one_list_more recursor_things c.args.things.now.items c.loop-r.things.items c.push_recursor.new.things.items c.args.recursors.now c.loop-r.r-index c.r-item.result
    c.loop-r-test.true c.r-item.is c.loop-r.invariant c.in_ok-push_recursor.ensures
