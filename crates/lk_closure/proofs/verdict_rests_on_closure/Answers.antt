use Rattle.lk_closure.proofs.Units.{unit_kept, each_kept, unit_moved}
use Rattle.lk_closure.proofs.verdict_rests_on_closure.Goals as goal

pub returns : goal.returns
returns c = record { kept = unit_kept; each = each_kept; moved = unit_moved }
