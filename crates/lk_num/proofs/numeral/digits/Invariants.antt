use Rattle.std.proofs.Common.{length}
use Rattle.lk_num.proofs.DigitLoops.{Reads}
use Rattle.lk_num.proofs.numeral.digits.Given as goal

abbrev pub invariant-loop-rest : goal.invariant-loop-rest
invariant-loop-rest l = Reads l.bytes l.rest 0 l.number

abbrev pub decreases-loop-rest : goal.decreases-loop-rest
decreases-loop-rest l = length l.rest
