use Rattle.lk_restore.proofs.Aside.{recursors_stay}
use Rattle.lk_restore.proofs.nothing_is_read_back.Goals as goal

pub returns : goal.returns
returns c = recursors_stay
