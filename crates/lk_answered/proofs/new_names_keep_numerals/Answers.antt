use Rattle.lk_answered.proofs.NewNames.{numerals_kept}
use Rattle.lk_answered.proofs.new_names_keep_numerals.Goals as goal

pub returns : goal.returns
returns c = λ us n new. numerals_kept us n new
