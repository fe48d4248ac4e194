use Rattle.lk_text.proofs.Split.{split_again, joined_back}
use Rattle.lk_text.proofs.laws.joined_texts_are_split_again.Goals as goal

pub returns : goal.returns
returns c = record { split = split_again; joined = joined_back }
