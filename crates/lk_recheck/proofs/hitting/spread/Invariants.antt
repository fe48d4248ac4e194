use Rattle.std.specs.Prelude.{Bool, List}
use Rattle.lk_needs.specs.Marks.{turns}
use Rattle.lk_recheck.specs.Counts.{room_by}
use Rattle.lk_recheck.specs.Hits.{AreWithin, IsSpreading}
use Rattle.lk_recheck.proofs.hitting.spread.Given as goal

abbrev pub invariant-waiting : goal.invariant-waiting
invariant-waiting l = record {
  within : AreWithin (room_by l.counts) l.hits;
  spreading : (changed : List Bool) → IsSpreading (room_by l.counts) l.sources changed l.units l.initial.hits → IsSpreading (room_by l.counts) l.sources changed l.units l.hits;
}

abbrev pub decreases-waiting : goal.decreases-waiting
decreases-waiting l = turns l.hits
