use Rattle.lk_answered.proofs.Yes.{yes_written}
use Rattle.lk_answered.proofs.yes_declaration_is_written.Goals as goal

pub returns : goal.returns
returns c = λ us n budget d kept at h. yes_written us n budget d kept at h
