use Rattle.std.proofs.Common.{ap, ◌∙◌}
use Rattle.lk_recheck.specs.Sources.{listed, slots}
use Rattle.lk_recheck.specs.Counts.{room_by}
use Rattle.lk_recheck.specs.Built.{stored_at}
use Rattle.lk_recheck.proofs.Room.{built_at}
use Rattle.lk_recheck.proofs.Turned.{things_led, one_turned}
use Rattle.lk_recheck.proofs.building.sources_of.Goals as goal

pub loop-slot-init : goal.loop-slot-init
loop-slot-init c =
    built_at c.args.base.now c.args.units.now c.args.links.now.sources c.in_ok-sources.sources c.total-count.result c.listed-slot.result
    (c.total-count.ensures ∙ ap slots c.requires.count.room) (c.listed-slot.ensures ∙ ap listed c.requires.count.room) c.requires.links.built c.in_ok-sources.ensures

pub add_all-requires-clause-things_in : goal.add_all-requires-clause-things_in
add_all-requires-clause-things_in c =
    things_led (stored_at c.args.base.now c.args.units.now) (room_by c.args.counts.now) c.thing_at-thing.result c.list_things.new.things.items c.deref-in-loop-slot.result.now
    c.requires.count.room c.deref-in-loop-slot.ensures.value c.in_ok-list_things.ensures

pub loop-slot-preserved : goal.loop-slot-preserved
loop-slot-preserved c =
    one_turned (stored_at c.args.base.now c.args.units.now) (room_by c.args.counts.now) c.loop-slot.slot c.loop-slot.sources c.add_all.new.sources c.thing_at-thing.result c.list_things.new.things.items
    c.deref-in-loop-slot.result.now c.requires.count.room c.deref-in-loop-slot.ensures.value c.loop-slot.invariant c.thing_at-thing.ensures c.in_ok-list_things.ensures c.in_ok-add_all.ensures
