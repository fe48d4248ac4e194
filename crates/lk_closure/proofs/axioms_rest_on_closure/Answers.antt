use Rattle.lk_closure.proofs.Axioms.{unit_stands, axioms_kept, axioms_back}
use Rattle.lk_closure.proofs.axioms_rest_on_closure.Goals as goal

pub returns : goal.returns
returns c = record { stands = unit_stands; there = axioms_kept; back = axioms_back }
