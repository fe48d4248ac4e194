use Rattle.lk_axioms.proofs.Kept.{same_kept}
use Rattle.lk_axioms.proofs.laws.same_axioms_are_kept.Goals as goal

pub returns : goal.returns
returns c = same_kept
