use Rattle.std.proofs.Common.{◌≡◌, subst, ap, ◌∙◌, map}
use Rattle.std.specs.Prelude.{OnOk}
use Rattle.lk_questions.specs.Table.{steps}
use Rattle.lk_env.specs.Units.{type_at}
use Rattle.lk_env.specs.Scopes.{alone_members}
use Rattle.lk_engine.specs.Lookouts.{standing_at, places_at}
use Rattle.lk_engine.proofs.Lookouts.{gives_beside, gives_basis}
use Rattle.lk_engine.proofs.Standing.{beside_stands}
use Rattle.lk_store.specs.Layers.{layers_contents, Layers}
use Rattle.lk_ask.specs.Outlook.{Outlook}
use Rattle.lk_engine.proofs.engine.EngineAsks.give_beside.Goals as goal

pub returns-clause-standing : goal.returns-clause-standing
returns-clause-standing g c =
    let new = c.give_beside_in-given.new.lookout in
    let r = c.give_beside_in-given.result in
    subst (λ (s : Outlook Layers). OnOk r (standing_at new.scope new.site ≡ record {
      basis = (s.scope.library, s.site.unit);
      table = steps;
      place = places_at (s.scope.library, s.site.unit) c.args.partial (alone_members (map (type_at (layers_contents s.terms)) c.args.types.now));
    })) c.self.view_is (gives_beside _ new _ _ r c.give_beside_in-given.ensures.gives)

pub returns-clause-basis : goal.returns-clause-basis
returns-clause-basis g c = gives_basis _ _ _ _ c.give_beside_in-given.result
    c.give_beside_in-given.ensures.gives
    c.give_beside_in-given.ensures.refused ∙ ap (λ s. (s.scope.library, s.site.unit)) c.self.view_is

pub invariant_of-self : goal.invariant_of-self
invariant_of-self g c = rw c.clear.ensures.share (beside_stands _ _ _ _ _ _ _
    c.give_beside_in-given.result c.give_beside_in-given.ensures.gives
    c.give_beside_in-given.ensures.refused c.self.invariant c.clear.ensures.private
    c.clear.ensures.lasting c.clear.ensures.staying)
