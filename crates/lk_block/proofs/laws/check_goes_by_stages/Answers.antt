use Rattle.lk_block.proofs.Staged as staged
use Rattle.lk_block.proofs.laws.check_goes_by_stages.Goals as goal

pub returns : goal.returns
returns c = staged.goes_by_stages
