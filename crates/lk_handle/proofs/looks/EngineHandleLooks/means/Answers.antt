use Rattle.std.proofs.Common.{subst}
use Rattle.lk_ask.specs.Looks.{IsMeant}
use Rattle.lk_step.specs.Calls.{contents_from, rest_from, sight_from}
use Rattle.lk_handle.proofs.looks.EngineHandleLooks.means.Goals as goal

pub returns : goal.returns
returns g c = subst (λ s. IsMeant contents_from rest_from sight_from s c.args.name c.means.result)
    c.self.view_is c.means.ensures
