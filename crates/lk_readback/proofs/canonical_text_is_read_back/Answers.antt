use Rattle.lk_readback.proofs.ReadBack.{read_back}
use Rattle.lk_readback.proofs.canonical_text_is_read_back.Goals as goal

pub returns : goal.returns
returns c = read_back
