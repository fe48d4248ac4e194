use Rattle.lk_questions.proofs.Parts.{sound_part_of, ans_gives, part_itself}
use Rattle.lk_questions.proofs.parts_are_sound.Goals as goal

pub returns : goal.returns
returns c = record {
  sound = λ part table h s. sound_part_of part table h s;
  agree = λ part table w q b h. ans_gives part table h w q b;
  itself = λ table q. part_itself (table q);
}
