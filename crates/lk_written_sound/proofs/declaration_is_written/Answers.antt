use Rattle.lk_written_sound.proofs.Wholes.{declaration_written}
use Rattle.lk_written_sound.proofs.declaration_is_written.Goals as goal

pub returns : goal.returns
returns c = λ us n d at sc h. declaration_written us n d at sc h
