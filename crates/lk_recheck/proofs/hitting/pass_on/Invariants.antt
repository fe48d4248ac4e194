use Rattle.lk_recheck.specs.Counts.{room_by}
use Rattle.lk_recheck.specs.Hits.{IsPassing}
use Rattle.lk_recheck.proofs.hitting.pass_on.Given as goal

abbrev pub invariant-back : goal.invariant-back
invariant-back l = IsPassing (room_by l.counts) l.sources l.target l.initial.hits l.hits l.place

abbrev pub decreases-back : goal.decreases-back
decreases-back l = l.place
