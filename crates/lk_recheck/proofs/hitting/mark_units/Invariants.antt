use Rattle.lk_recheck.specs.Counts.{room_by}
use Rattle.lk_recheck.specs.Hits.{AreWithin, IsMarking}
use Rattle.lk_recheck.proofs.hitting.mark_units.Given as goal

abbrev pub invariant-loop-unit : goal.invariant-loop-unit
invariant-loop-unit l = record {
  within : AreWithin (room_by l.counts) l.hits;
  marking : IsMarking (room_by l.counts) l.sources l.changed l.things l.unit l.hits l.marks.items;
}
