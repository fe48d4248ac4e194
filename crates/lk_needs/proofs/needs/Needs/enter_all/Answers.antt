use Rattle.std.proofs.Common.{subst}
use Rattle.std.proofs.lemmas.List.{take_all}
use Rattle.lk_needs.specs.Marks.{Enters}
use Rattle.lk_needs.proofs.Marked.{none_entered, next_in, one_more_entered}
use Rattle.lk_needs.proofs.needs.Needs.enter_all.Goals as goal

pub loop-thing-init : goal.loop-thing-init
loop-thing-init c = none_entered c.args.self.now

pub enter-requires : goal.enter-requires
enter-requires c = next_in c.args.self.now c.loop-thing.self c.args.things.now c.loop-thing.thing-index _ c.requires c.loop-thing-test.true c.loop-thing.invariant.room

pub loop-thing-preserved : goal.loop-thing-preserved
loop-thing-preserved c = one_more_entered c.args.self.now c.loop-thing.self c.enter.new.self c.args.things.now c.loop-thing.thing-index _ c.loop-thing-test.true c.loop-thing.invariant c.in_ok-enter.ensures

pub returns : goal.returns
returns c = subst (Enters c.args.self.now c.loop-thing.self) (take_all c.loop-thing.thing-index c.args.things.now c.loop-thing-test.false) c.loop-thing.invariant
