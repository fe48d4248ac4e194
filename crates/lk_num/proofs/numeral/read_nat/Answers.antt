use Rattle.std.proofs.Common.{rules}
use Rattle.lk_num.proofs.Numerals.{nat_of-by}
use Rattle.lk_num.proofs.numeral.read_nat.Goals as goal

pub returns-clause-equation : goal.returns-clause-equation
returns-clause-equation c = nat_of-by c.args.bytes.now c.digits.result c.digits.ensures.some c.digits.ensures.value (search rules)
