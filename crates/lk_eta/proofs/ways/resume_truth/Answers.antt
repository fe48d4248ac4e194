use Rattle.lk_eta.specs.Etas.{behind_way}
use Rattle.lk_ask.proofs.LineSteps.{line_on}
use Rattle.lk_eta.proofs.ways.resume_truth.Goals as goal

pub returns : goal.returns
returns g c = line_on (behind_way c.args.way) c.in_ok-line.ensures c.of_way.ensures
