use Rattle.lk_text.proofs.Refusing.{is_listed, all_listed}
use Rattle.lk_text.proofs.laws.allowed_axioms_are_listed.Goals as goal

pub returns : goal.returns
returns c = record { axioms = is_listed; units = all_listed }
