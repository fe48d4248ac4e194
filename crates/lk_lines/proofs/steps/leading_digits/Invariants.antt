use Rattle.std.proofs.Common.{length}
use Rattle.lk_lines.specs.Digits.{LeadingDigits}
use Rattle.lk_lines.proofs.steps.leading_digits.Given as goal

abbrev pub invariant-loop-rest : goal.invariant-loop-rest
invariant-loop-rest l = LeadingDigits l.front l.rest l.number

abbrev pub decreases-loop-rest : goal.decreases-loop-rest
decreases-loop-rest l = length l.rest
