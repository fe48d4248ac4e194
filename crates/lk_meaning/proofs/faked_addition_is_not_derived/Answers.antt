use Rattle.lk_meaning.proofs.FakedAddition.{no_constant_addition, not_derived, derived_by_another_name}
use Rattle.lk_meaning.proofs.faked_addition_is_not_derived.Goals as goal

pub returns : goal.returns
returns c = record { constant = no_constant_addition; always_one = not_derived; by_another_name = derived_by_another_name }
