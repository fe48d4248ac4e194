use Rattle.lk_reach.specs.Axioms.{IsAxiomOf}
use Rattle.lk_reach.proofs.Computed.{axioms_listed}
use Rattle.lk_reach.proofs.Lists.{one_list}
use Rattle.lk_reach.proofs.lists_are_one.Goals as goal

pub returns : goal.returns
returns c = record { axioms_of = λ us n. axioms_listed us n; axioms = λ us n ks js h i. one_list (IsAxiomOf us n) ks js h i }
