use Rattle.lk_table_sound.proofs.Derivations.{sound_steps}
use Rattle.lk_table_sound.proofs.whole_table_is_sound.Goals as goal

pub returns : goal.returns
returns c = sound_steps
