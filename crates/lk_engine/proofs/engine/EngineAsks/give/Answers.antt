use Rattle.std.proofs.Common.{[], ap, ◌∙◌}
use Rattle.lk_questions.specs.Table.{steps}
use Rattle.lk_engine.specs.Lookouts.{places_at}
use Rattle.lk_engine.proofs.Lookouts.{gives_standing}
use Rattle.lk_engine.proofs.Standing.{gives_stands}
use Rattle.lk_engine.proofs.engine.EngineAsks.give.Goals as goal

pub returns-clause-standing : goal.returns-clause-standing
returns-clause-standing g c = gives_standing c.give_in.ensures ∙ ap
    (λ s. record { basis = (s.scope.library, s.site.unit); table = steps; place = places_at (s.scope.library, s.site.unit) c.args.partial [] }) c.self.view_is

pub invariant_of-self : goal.invariant_of-self
invariant_of-self g c = rw c.clear.ensures.share (gives_stands c.give_in.ensures c.self.invariant
    c.clear.ensures.private c.clear.ensures.lasting c.clear.ensures.staying)
