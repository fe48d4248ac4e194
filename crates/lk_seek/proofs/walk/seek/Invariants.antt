use Rattle.lk_seek.specs.Visits.{turns}
use Rattle.lk_seek.proofs.Visits.{IsUnderWay}
use Rattle.lk_seek.proofs.walk.seek.Given as goal

abbrev pub invariant-walk : goal.invariant-walk
invariant-walk g l =
    let s = g.S.Seek.sought l.seeker in
    record {
      kept : g.S.Seek.are_kept l.seeker l.kept;
      under_way : IsUnderWay s (s.found_in l.fn.part) l.stack.items;
    }

abbrev pub decreases-walk : goal.decreases-walk
decreases-walk g l = turns (g.S.Seek.sought l.seeker) l.stack.items
