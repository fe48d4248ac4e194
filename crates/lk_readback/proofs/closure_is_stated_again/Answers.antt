use Rattle.lk_readback.proofs.Trimmed.{trimmed_again}
use Rattle.lk_readback.proofs.closure_is_stated_again.Goals as goal

pub returns : goal.returns
returns c = trimmed_again
