use Rattle.std.proofs.Common.{rules, ap, subst, ◌∙◌}
use Rattle.std.specs.Prelude.{IfOk, IfErr}
use Rattle.lk_store.specs.Contents.{name_at}
use Rattle.lk_store.specs.Layers.{layers_contents, Layers}
use Rattle.lk_store.proofs.Made.{Extends-self}
use Rattle.lk_env.specs.StoredScope.{lent_by}
use Rattle.lk_env.specs.Scopes.{place_in}
use Rattle.lk_ask.specs.Constants.{IsFound, IsRefusedBy}
use Rattle.lk_ask.specs.Outlook.{Outlook}
use Rattle.lk_engine.specs.Lookouts.{Stays}
use Rattle.lk_engine.proofs.Lookouts.{sight_at, sight_stays, looked_stands}
use Rattle.lk_engine.proofs.derivations.EngineEngineCalls.look.Goals as goal

pub invariant_of-self : goal.invariant_of-self
invariant_of-self g c =
    let stays : Stays layers_contents (λ l. l.base) c.self.inside.lookout c.look.new.self =
    sight_stays (rw c.look.ensures.contents (Extends-self _)) c.look.ensures.stays in
    looked_stands stays c.self.invariant

pub returns : goal.returns
returns g c = record {
  contents = search rules;
  stays = c.look.ensures.stays
      ∙ ap (λ (s : Outlook Layers). (sight_at (s.scope, s.site, s.meter, s.terms.base)).basis)
      c.self.view_is;
  over = search rules;
  known = search rules;
  found =
      subst (λ (s : Outlook Layers). IfOk c.look.result (λ e. IsFound (lent_by s.scope)
      (place_in s.scope s.site) (name_at (layers_contents s.terms) c.args.name) s.meter.last e
      c.look.new.self.meter.last)) c.self.view_is c.look.ensures.found;
  refused =
      subst (λ (s : Outlook Layers). IfErr c.look.result (IsRefusedBy c.args.missing
      (place_in s.scope s.site) (name_at (layers_contents s.terms) c.args.name)))
      c.self.view_is c.look.ensures.refused;
}
