use Rattle.lk_same.specs.Sames.{then_texts}
use Rattle.lk_same.proofs.Giving.{line_then}
use Rattle.lk_same.proofs.lines.eta.Goals as goal

pub returns : goal.returns
returns g c = line_then then_texts c.in_ok-line.ensures c.of_eta.ensures
