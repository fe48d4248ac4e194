use Rattle.lk_questions.proofs.First.{same_too}
use Rattle.lk_questions.proofs.equal_trees_are_the_same.Goals as goal

pub returns : goal.returns
returns c = same_too
