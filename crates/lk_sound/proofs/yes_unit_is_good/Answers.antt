use Rattle.lk_questions.specs.Table.{steps}
use Rattle.lk_table_sound.proofs.Derivations.{sound_steps}
use Rattle.lk_sound.proofs.GoodUnits.{good_of_yes, all_good}
use Rattle.lk_sound.proofs.yes_unit_is_good.Goals as goal

pub returns : goal.returns
returns c = record {
  each = λ table us n budget sound cl ops h. good_of_yes table sound us n budget cl ops h;
  whole = λ us n budget cl ops h. good_of_yes steps sound_steps us n budget cl ops h;
  library = λ table us sound cl all n l. all_good table sound us cl all n l;
}
