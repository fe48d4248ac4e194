use Rattle.lk_restore.proofs.Aside.{reads_as}
use Rattle.lk_restore.proofs.store_reads_as_defined.Goals as goal

pub returns : goal.returns
returns c = reads_as
