use Rattle.std.proofs.Common.{take}
use Rattle.lk_recheck.specs.Counts.{room_by}
use Rattle.lk_recheck.specs.Sources.{AreMore}
use Rattle.lk_recheck.proofs.building.add_all.Given as goal

abbrev pub invariant-loop-thing : goal.invariant-loop-thing
invariant-loop-thing l = AreMore (room_by l.counts) l.initial.sources l.sources l.source (take l.thing-index l.things)
