use Rattle.lk_rulebook.proofs.Scopes.{well_formed_of_type, well_formed_of_reduct, well_formed_of_equal}
use Rattle.lk_rulebook.proofs.related_is_well_formed.Goals as goal

pub returns : goal.returns
returns c = record { types = λ w e A. well_formed_of_type; reducts = λ w a b. well_formed_of_reduct; equals = λ w a b. well_formed_of_equal }
