use Rattle.std.proofs.Common.{refl}
use Rattle.lk_recheck.specs.Counts.{room_by}
use Rattle.lk_recheck.proofs.Spreading.{starts_within, starts_spreading}
use Rattle.lk_recheck.proofs.Telling.{none_told}
use Rattle.lk_recheck.proofs.hitting.mark_units.Goals as goal

pub spread-requires-clause-within : goal.spread-requires-clause-within
spread-requires-clause-within c = starts_within (room_by c.args.counts.now) c.args.sources.now c.args.changed.now c.in_ok-hits.hits c.args.counts.now.units refl c.in_ok-hits.ensures

pub loop-unit-init : goal.loop-unit-init
loop-unit-init c = record {
  within = c.in_ok-spread.ensures.within;
  marking = record {
    spread = c.in_ok-spread.ensures.spread c.args.changed.now (starts_spreading (room_by c.args.counts.now) c.args.sources.now c.args.changed.now c.in_ok-hits.hits c.args.counts.now.units refl c.in_ok-hits.ensures);
    tells = none_told (room_by c.args.counts.now) c.args.sources.now c.args.changed.now c.args.things.now c.new-marks.result.items c.new-marks.ensures.items;
  };
}

pub loop-unit-preserved : goal.loop-unit-preserved
loop-unit-preserved c = record {
  within = c.in_ok-mark_unit.ensures.within;
  marking = c.in_ok-mark_unit.ensures.marked c.args.changed.now c.loop-unit.invariant.marking;
}
