use Rattle.lk_closure.proofs.Units.{declaration_kept, declaration_moved}
use Rattle.lk_closure.proofs.declaration_rests_on_closure.Goals as goal

pub returns : goal.returns
returns c = record { kept = declaration_kept; moved = declaration_moved }
