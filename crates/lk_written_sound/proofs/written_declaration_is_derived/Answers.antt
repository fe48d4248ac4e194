use Rattle.lk_written_sound.proofs.Units.{unit_derived}
use Rattle.lk_written_sound.proofs.written_declaration_is_derived.Goals as goal

pub returns : goal.returns
returns c = λ us n s ok h. unit_derived us n s ok h
