use Rattle.std.proofs.Common.{length, ◌+◌, ◌-◌, ◌≤◌}
use Rattle.lk_axioms.proofs.Merging.{IsMergingAt}
use Rattle.lk_axioms.proofs.merge.merge.Given as goal

abbrev pub invariant-both : goal.invariant-both
invariant-both l = record {
  i_within : l.i ≤ length l.xs;
  j_within : l.j ≤ length l.ys;
  merging : IsMergingAt l.xs l.ys l.merged.items l.i l.j;
}

abbrev pub decreases-both : goal.decreases-both
decreases-both l = (length l.xs - l.i) + (length l.ys - l.j)
