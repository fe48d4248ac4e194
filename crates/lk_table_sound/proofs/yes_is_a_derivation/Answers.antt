use Rattle.lk_questions.specs.Table.{steps}
use Rattle.lk_table_sound.proofs.Derivations.{sound_steps}
use Rattle.lk_table_sound.proofs.Derivations.{yes_is_good}
use Rattle.lk_table_sound.proofs.yes_is_a_derivation.Goals as goal

pub returns : goal.returns
returns c = record { each = λ table w d b s ok f. yes_is_good table s w ok d b f; whole = λ w d b ok f. yes_is_good steps sound_steps w ok d b f }
