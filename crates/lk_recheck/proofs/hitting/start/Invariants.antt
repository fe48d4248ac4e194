use Rattle.lk_recheck.specs.Counts.{room_by}
use Rattle.lk_recheck.specs.Hits.{AreStartedTo}
use Rattle.lk_recheck.proofs.hitting.start.Given as goal

abbrev pub invariant-loop-unit : goal.invariant-loop-unit
invariant-loop-unit l = AreStartedTo (room_by l.counts) l.changed l.unit l.hits
