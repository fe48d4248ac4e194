use Rattle.lk_questions.specs.Table.{steps}
use Rattle.lk_table_sound.proofs.Derivations.{sound_steps}
use Rattle.lk_sound.proofs.WholeYes.{yes_whole}
use Rattle.lk_sound.proofs.yes_block_is_derived.Goals as goal

pub returns : goal.returns
returns c = record {
  each = λ table us n b stated budget sound ok cl new st clear. yes_whole table sound us n b stated budget ok cl new st clear;
  whole = λ us n b stated budget ok cl new st clear. yes_whole steps sound_steps us n b stated budget ok cl new st clear;
}
