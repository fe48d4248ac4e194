use Rattle.std.proofs.Common.{subst}
use Rattle.std.proofs.lemmas.List.{take_all}
use Rattle.lk_recheck.specs.Counts.{room_by}
use Rattle.lk_recheck.specs.Sources.{AreMore}
use Rattle.lk_recheck.proofs.Chained.{none_added, one_added, next_source_in, next_target_in}
use Rattle.lk_recheck.proofs.building.add_all.Goals as goal

pub loop-thing-init : goal.loop-thing-init
loop-thing-init c = none_added (room_by c.args.counts.now) c.args.sources.now c.args.source c.requires.table.linked

pub add-requires-clause-linked : goal.add-requires-clause-linked
add-requires-clause-linked c = c.loop-thing.invariant.linked

pub add-requires-clause-source_in : goal.add-requires-clause-source_in
add-requires-clause-source_in c = next_source_in (room_by c.args.counts.now) c.args.sources.now c.loop-thing.sources c.args.source _ c.requires.source_in c.requires.table.as_many c.loop-thing.invariant

pub add-requires-clause-target_in : goal.add-requires-clause-target_in
add-requires-clause-target_in c =
    next_target_in (room_by c.args.counts.now) c.args.sources.now c.loop-thing.sources c.args.source c.slot_of-target.result c.args.things.now c.loop-thing.thing-index _
    c.requires.things_in c.loop-thing-test.true c.requires.table.as_many c.loop-thing.invariant c.slot_of-target.ensures

pub loop-thing-preserved : goal.loop-thing-preserved
loop-thing-preserved c =
    one_added (room_by c.args.counts.now) c.args.sources.now c.loop-thing.sources c.add.new.self c.args.source c.slot_of-target.result c.args.things.now c.loop-thing.thing-index _
    c.loop-thing-test.true c.loop-thing.invariant c.in_ok-add.ensures c.slot_of-target.ensures

pub returns : goal.returns
returns c = subst (AreMore (room_by c.args.counts.now) c.args.sources.now c.loop-thing.sources c.args.source) (take_all c.loop-thing.thing-index c.args.things.now c.loop-thing-test.false) c.loop-thing.invariant
