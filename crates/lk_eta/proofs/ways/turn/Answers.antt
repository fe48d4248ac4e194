use Rattle.lk_eta.specs.declared.sheet.Way.TheVariants.{Turned}
use Rattle.lk_eta.specs.Etas.{behind_way}
use Rattle.lk_ask.proofs.LineSteps.{line_wrapped}
use Rattle.lk_eta.proofs.ways.turn.Goals as goal

pub returns : goal.returns
returns g c = line_wrapped (behind_way Turned) c.of_turned.ensures.known c.of_turned.ensures.steps c.in_ok-line.ensures
