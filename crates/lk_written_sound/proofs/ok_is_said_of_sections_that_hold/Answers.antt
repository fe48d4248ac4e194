use Rattle.lk_written_sound.proofs.Outcomes.{said_held, held_said}
use Rattle.lk_written_sound.proofs.ok_is_said_of_sections_that_hold.Goals as goal

pub returns : goal.returns
returns c = record { said = λ us ss n h. said_held us ss n h; held = λ us ss n s own h. held_said us ss n s own h }
