use Rattle.lk_inductive.proofs.Plain.{plain_steady}
use Rattle.lk_inductive.proofs.plain_block_is_steady.Goals as goal

pub returns : goal.returns
returns c = λ table us n b stated budget. plain_steady table us n b stated budget
