use Rattle.lk_answered.proofs.Good.{written_good}
use Rattle.lk_answered.proofs.written_unit_is_good.Goals as goal

pub returns : goal.returns
returns c = written_good
