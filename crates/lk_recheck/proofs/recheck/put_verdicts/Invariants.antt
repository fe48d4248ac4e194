use Rattle.std.specs.Prelude.{map}
use Rattle.lk_verdict.specs.Held.{verdict}
use Rattle.lk_recheck.specs.Plans.{ArePutTo}
use Rattle.lk_recheck.proofs.recheck.put_verdicts.Given as goal

abbrev pub invariant-loop-i : goal.invariant-loop-i
invariant-loop-i l = ArePutTo l.numbers (map verdict l.answers) l.i (map verdict l.initial.verdicts.items) (map verdict l.verdicts.items)
