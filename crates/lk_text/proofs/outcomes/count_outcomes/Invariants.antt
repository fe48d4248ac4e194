use Rattle.std.proofs.Common.{◌≡◌, ◌+◌, ◌≤◌, length, map}
use Rattle.lk_trace.specs.Outcomes.{outcome_at}
use Rattle.lk_text.specs.Replayed.{count_outcomes}
use Rattle.lk_text.proofs.outcomes.count_outcomes.Given as goal

abbrev pub invariant-loop-rest : goal.invariant-loop-rest
invariant-loop-rest l = (l.n + count_outcomes l.fn.kind (map outcome_at l.rest) ≡ count_outcomes l.fn.kind (map outcome_at l.fn.outcomes)) × (l.n + length l.rest ≤ length l.fn.outcomes)

abbrev pub decreases-loop-rest : goal.decreases-loop-rest
decreases-loop-rest l = length l.rest
