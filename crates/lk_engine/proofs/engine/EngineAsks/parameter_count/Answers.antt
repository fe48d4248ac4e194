use Rattle.std.proofs.Common.{subst}
use Rattle.std.specs.Prelude.{IfOk, IfErr}
use Rattle.lk_store.specs.Contents.{name_at}
use Rattle.lk_store.specs.Layers.{layers_contents}
use Rattle.lk_env.specs.Scopes.{place_in}
use Rattle.lk_ask.specs.Constants.{IsRefused}
use Rattle.lk_env.specs.Lent.{HasParameters}
use Rattle.lk_engine.proofs.engine.EngineAsks.parameter_count.Goals as goal

pub returns-clause-found : goal.returns-clause-found
returns-clause-found g c =
    subst (λ s. IfOk c.parameters_at.result
    (HasParameters (place_in s.scope s.site) (name_at (layers_contents s.terms) c.args.name)))
    c.self.view_is c.parameters_at.ensures.found

pub returns-clause-refused : goal.returns-clause-refused
returns-clause-refused g c =
    subst (λ s. IfErr c.parameters_at.result
    (IsRefused (place_in s.scope s.site) (name_at (layers_contents s.terms) c.args.name)))
    c.self.view_is c.parameters_at.ensures.refused
