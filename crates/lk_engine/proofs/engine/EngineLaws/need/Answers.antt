use Rattle.std.proofs.Common.{None, ap, subst, ◌∙◌}
use Rattle.lk_questions.specs.Settled.{settle}
use Rattle.lk_env.specs.Scopes.{place_in}
use Rattle.lk_quot.specs.Units.{IsMet}
use Rattle.lk_laws.specs.Needs.{needed_steps}
use Rattle.lk_engine.specs.Lookouts.{standing_at, Stays}
use Rattle.lk_engine.proofs.Lookouts.{sight_stays, standing_stays, looked_stands}
use Rattle.lk_store.specs.Layers.{layers_contents}
use Rattle.lk_engine.proofs.engine.EngineLaws.need.Goals as goal

pub invariant_of-self : goal.invariant_of-self
invariant_of-self g c =
    let stays : Stays layers_contents (λ l. l.base) c.self.inside.lookout
    c.is_given.new.looks = sight_stays c.is_given.ensures.keeps c.is_given.ensures.stays in
    looked_stands stays c.self.invariant

pub returns-clause-stays : goal.returns-clause-stays
returns-clause-stays g c =
    let stays : Stays layers_contents (λ l. l.base) c.self.inside.lookout
    c.is_given.new.looks = sight_stays c.is_given.ensures.keeps c.is_given.ensures.stays in
    standing_stays stays ∙ ap (λ s. standing_at s.scope s.site) c.self.view_is

pub returns-clause-outcome : goal.returns-clause-outcome
returns-clause-outcome g c =
    subst (λ s. IsMet (settle (place_in s.scope s.site) None (needed_steps c.args.needed))
    c.is_given.result) c.self.view_is c.is_given.ensures.outcome
