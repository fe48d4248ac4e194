use Rattle.lk_level_order.proofs.CaseNumbers.{has_one_is}
use Rattle.lk_level_order.proofs.support.has_digit.Goals as goal

pub returns : goal.returns
returns c = has_one_is c.args.number c.args.n
