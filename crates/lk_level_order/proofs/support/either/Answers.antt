use Rattle.lk_level_order.proofs.CaseNumbers.{or_has}
use Rattle.lk_level_order.proofs.support.either.Goals as goal

pub returns-clause-by : goal.returns-clause-by
returns-clause-by c n = or_has c.args.left.by c.args.right.by n
