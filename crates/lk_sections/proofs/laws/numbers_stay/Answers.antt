use Rattle.lk_sections.proofs.Larger.{numbers_larger, file_larger}
use Rattle.lk_sections.proofs.laws.numbers_stay.Goals as goal

pub returns-clause-numbers : goal.returns-clause-numbers
returns-clause-numbers c b d n e i a h = numbers_larger b d e n i a h

pub returns-clause-file : goal.returns-clause-file
returns-clause-file c b d w e h = file_larger b d e w h
