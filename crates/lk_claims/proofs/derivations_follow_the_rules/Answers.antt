use Rattle.lk_claims.proofs.Derivations.{types_derived, reductions_derived, equalities_derived}
use Rattle.lk_claims.proofs.derivations_follow_the_rules.Goals as goal

pub returns : goal.returns
returns c = record { typing = types_derived; reduction = reductions_derived; conversion = equalities_derived }
