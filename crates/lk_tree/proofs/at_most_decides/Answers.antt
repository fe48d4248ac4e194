use Rattle.lk_tree.proofs.LevelTests.{level_le_right, level_le_all}
use Rattle.lk_tree.proofs.at_most_decides.Goals as goal

pub returns : goal.returns
returns c = record { holds = λ l m h σ. level_le_right l m h σ; complete = λ l m h. level_le_all l m h }
