use Rattle.lk_needs.specs.Things.{constructor_things}
use Rattle.lk_needs.proofs.Lists.{one_list_more}
use Rattle.lk_needs.proofs.listing.push_constructors.Goals as goal

pub loop-k-preserved : goal.loop-k-preserved
loop-k-preserved c =
    one_list_more constructor_things c.args.things.now.items c.loop-k.things.items c.push_constructor.new.things.items c.args.constructors.now c.loop-k.k-index c.k-item.result
    c.loop-k-test.true c.k-item.is c.loop-k.invariant c.in_ok-push_constructor.ensures
