use Rattle.lk_written_sound.proofs.Faults.{no_fault, holds_so}
use Rattle.lk_written_sound.proofs.section_is_at_fault_or_holds.Goals as goal

pub returns : goal.returns
returns c = record { none = λ us n s h. no_fault us n s h; holds = λ us n s h. holds_so us n s h }
