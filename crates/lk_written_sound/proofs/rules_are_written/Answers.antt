use Rattle.lk_written_sound.proofs.Closeds.{types_follow, reductions_follow, equalities_follow}
use Rattle.lk_written_sound.proofs.rules_are_written.Goals as goal

pub returns : goal.returns
returns c = record { typing = λ w. types_follow w; reduction = λ w kept. reductions_follow w kept; conversion = λ w. equalities_follow w }
