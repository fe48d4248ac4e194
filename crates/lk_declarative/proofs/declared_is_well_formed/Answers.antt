use Rattle.lk_declarative.proofs.Scopes.{well_formed_of_type, well_formed_of_conversion}
use Rattle.lk_declarative.proofs.declared_is_well_formed.Goals as goal

pub returns : goal.returns
returns c = record { types = λ w e A. well_formed_of_type; conversions = λ w a b. well_formed_of_conversion }
