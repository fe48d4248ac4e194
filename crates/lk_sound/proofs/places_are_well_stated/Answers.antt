use Rattle.lk_sound.proofs.Statedness.{all_well_stated, all_no_local}
use Rattle.lk_sound.proofs.places_are_well_stated.Goals as goal

pub returns : goal.returns
returns c = record { stated = λ us n. all_well_stated us n; no_local = λ us n. all_no_local us n }
