use Rattle.lk_same.specs.Sames.{then_unfolding}
use Rattle.lk_same.proofs.Giving.{line_then}
use Rattle.lk_same.proofs.lines.literals.Goals as goal

pub returns : goal.returns
returns g c = line_then then_unfolding c.in_ok-line.ensures c.of_literals.ensures
