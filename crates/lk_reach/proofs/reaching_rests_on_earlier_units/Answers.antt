use Rattle.lk_reach.proofs.Reached.{reaches_alike}
use Rattle.lk_reach.proofs.reaching_rests_on_earlier_units.Goals as goal

pub returns : goal.returns
returns c = λ us vs n k e i r. reaches_alike us vs n k e i r
