use Rattle.std.proofs.Common.{rules, ◌≡◌, None, subst}
use Rattle.std.specs.Prelude.{IfErr}
use Rattle.lk_store.specs.Contents.{name_at}
use Rattle.lk_store.specs.Layers.{layers_contents, Layers}
use Rattle.lk_store.specs.Store.{contents_of}
use Rattle.lk_env.specs.Entries.{IsAnswer}
use Rattle.lk_env.specs.Scopes.{place_in}
use Rattle.lk_ask.specs.Outlook.{Outlook}
use Rattle.lk_engine.proofs.derivations.EngineEngineCalls.means.Goals as goal

pub returns : goal.returns
returns g c = record {
  over = search rules;
  known = search rules;
  answer =
      subst (λ (s : Outlook Layers). IsAnswer (contents_of s.scope.tables) s.scope.units
      (place_in s.scope s.site) (name_at (layers_contents s.terms) c.args.name) c.means.result)
      c.self.view_is c.means.ensures.answer;
  refused =
      subst (λ (s : Outlook Layers). IfErr c.means.result (λ r. (place_in s.scope s.site).means
      (name_at (layers_contents s.terms) c.args.name) ≡ None)) c.self.view_is
      c.means.ensures.refused;
}
