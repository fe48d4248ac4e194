use Rattle.std.proofs.Common.{subst}
use Rattle.lk_store.specs.Contents.{name_at}
use Rattle.lk_store.specs.Layers.{layers_contents, Layers}
use Rattle.lk_env.specs.Scopes.{place_in}
use Rattle.lk_family.specs.Families.{HasFamily}
use Rattle.lk_ask.specs.Outlook.{Outlook}
use Rattle.lk_engine.proofs.engine.EngineFamilies.family.Goals as goal

pub returns-clause-family : goal.returns-clause-family
returns-clause-family g c = subst (λ (s : Outlook Layers). HasFamily (place_in s.scope s.site)
    (name_at (layers_contents s.terms) c.args.name) (layers_contents s.terms) c.family_of.result)
    c.self.view_is c.family_of.ensures.family
