use Rattle.lk_inductive.proofs.PartTasks.{plain_gives}
use Rattle.lk_inductive.proofs.block_parts_agree.Goals as goal

pub returns : goal.returns
returns c = λ part table us n b stated budget h. plain_gives part table h us n b stated budget
