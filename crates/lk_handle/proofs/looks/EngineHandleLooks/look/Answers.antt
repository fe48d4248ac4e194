use Rattle.std.proofs.Common.{subst}
use Rattle.lk_ask.specs.Looks.{IsLookedUp}
use Rattle.lk_step.specs.Calls.{contents_from, rest_from, sight_from}
use Rattle.lk_handle.proofs.looks.EngineHandleLooks.look.Goals as goal

pub returns : goal.returns
returns g c =
    subst (λ s. IsLookedUp contents_from rest_from sight_from s (g.E.EngineCalls.outlook c.look.new.self)
    c.args.name c.args.missing c.look.result) c.self.view_is c.look.ensures
