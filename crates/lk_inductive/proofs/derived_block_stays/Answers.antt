use Rattle.lk_inductive.proofs.MoreBlocks.{block_after}
use Rattle.lk_inductive.proofs.derived_block_stays.Goals as goal

pub returns : goal.returns
returns c = λ us n u b stated s at fine full fresh g. block_after us n u b stated s at fine full fresh g
