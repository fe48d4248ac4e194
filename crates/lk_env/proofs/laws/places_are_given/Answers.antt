use Rattle.lk_env.proofs.Given.{unit_is, found_is}
use Rattle.lk_env.proofs.laws.places_are_given.Goals as goal

pub returns : goal.returns
returns c = record { units = λ us d. unit_is us d; entries = λ us d. found_is us d }
