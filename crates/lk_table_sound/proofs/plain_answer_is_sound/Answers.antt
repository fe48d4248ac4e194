use Rattle.lk_questions.specs.Table.{steps}
use Rattle.lk_table_sound.proofs.Derivations.{sound_steps, ans_sound}
use Rattle.lk_table_sound.proofs.plain_answer_is_sound.Goals as goal

pub returns : goal.returns
returns c = record { each = λ table w q b s ok f. ans_sound table s w ok q b f; whole = λ w q b ok f. ans_sound steps sound_steps w ok q b f }
