use Rattle.lk_derive.proofs.UnitVerdicts.{yes_parts}
use Rattle.lk_derive.proofs.laws.yes_has_parts.Goals as goal

pub returns : goal.returns
returns c = λ us n budget d at said. yes_parts us n budget d at said
