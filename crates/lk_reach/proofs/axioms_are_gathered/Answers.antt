use Rattle.lk_reach.proofs.Reached.{own_axiom, mentioned_axiom, only_axioms}
use Rattle.lk_reach.proofs.axioms_are_gathered.Goals as goal

pub returns : goal.returns
returns c = record { own = λ us n h. own_axiom us n h; mentioned = λ us n m k s h. mentioned_axiom us n m k s h; only = λ us n k h. only_axioms us n k h }
