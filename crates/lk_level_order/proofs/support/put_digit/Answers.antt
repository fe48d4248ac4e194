use Rattle.std.proofs.lemmas.Nat.{one_shl}
use Rattle.lk_level_order.proofs.CaseNumbers.{with_one_is}
use Rattle.lk_level_order.proofs.support.put_digit.Goals as goal

pub returns : goal.returns
returns c = rw (one_shl c.args.n 64 c.requires) (with_one_is c.args.number c.args.n)
