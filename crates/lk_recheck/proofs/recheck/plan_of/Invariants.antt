use Rattle.std.specs.Prelude.{map}
use Rattle.lk_verdict.specs.Held.{verdict}
use Rattle.lk_recheck.specs.Plans.{IsPlanTo}
use Rattle.lk_recheck.proofs.recheck.plan_of.Given as goal

abbrev pub invariant-loop-i : goal.invariant-loop-i
invariant-loop-i l = IsPlanTo l.stale (map verdict l.verdicts) l.i l.plan.numbers.items (map verdict l.plan.verdicts.items)
