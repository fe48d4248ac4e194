use Rattle.std.proofs.Common.{subst}
use Rattle.lk_ask.specs.Looks.{IsTaken}
use Rattle.lk_step.specs.Calls.{contents_from, rest_from, sight_from}
use Rattle.lk_handle.proofs.looks.EngineHandleLooks.at_levels.Goals as goal

pub returns : goal.returns
returns g c =
    subst (λ s. IsTaken contents_from rest_from sight_from s (g.E.EngineCalls.outlook c.at_levels.new.self)
    c.args.entry c.args.levels c.args.e c.at_levels.result) c.self.view_is c.at_levels.ensures
