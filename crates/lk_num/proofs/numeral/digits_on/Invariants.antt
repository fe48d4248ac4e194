use Rattle.std.proofs.Common.{length}
use Rattle.lk_num.proofs.DigitLoops.{ReadsNat}
use Rattle.lk_num.proofs.numeral.digits_on.Given as goal

abbrev pub invariant-loop-rest : goal.invariant-loop-rest
invariant-loop-rest l = ReadsNat l.digits l.rest l.fn.before l.number

abbrev pub decreases-loop-rest : goal.decreases-loop-rest
decreases-loop-rest l = length l.rest
