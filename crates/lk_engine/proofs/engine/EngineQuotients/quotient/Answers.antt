use Rattle.std.proofs.Common.{None, map, ap, subst, ◌∙◌}
use Rattle.lk_questions.specs.Settled.{settle}
use Rattle.lk_questions.specs.QuotientUnits.{quot_steps}
use Rattle.lk_store.specs.Contents.{name_at, tree_at}
use Rattle.lk_store.specs.Layers.{layers_contents}
use Rattle.lk_env.specs.Scopes.{place_in}
use Rattle.lk_quot.specs.Units.{IsMet}
use Rattle.lk_engine.specs.Lookouts.{standing_at, Stays}
use Rattle.lk_engine.proofs.Lookouts.{sight_stays, standing_stays, looked_stands}
use Rattle.lk_engine.proofs.engine.EngineQuotients.quotient.Goals as goal

pub invariant_of-self : goal.invariant_of-self
invariant_of-self g c =
    let stays : Stays layers_contents (λ l. l.base) c.self.inside.lookout
    c.may_stand.new.looks = sight_stays c.may_stand.ensures.keeps c.may_stand.ensures.stays in
    looked_stands stays c.self.invariant

pub returns-clause-stays : goal.returns-clause-stays
returns-clause-stays g c =
    let stays : Stays layers_contents (λ l. l.base) c.self.inside.lookout
    c.may_stand.new.looks = sight_stays c.may_stand.ensures.keeps c.may_stand.ensures.stays in
    standing_stays stays ∙ ap (λ s. standing_at s.scope s.site) c.self.view_is

pub returns-clause-outcome : goal.returns-clause-outcome
returns-clause-outcome g c = subst (λ s. let k = layers_contents s.terms in
    IsMet (settle (place_in s.scope s.site) None (quot_steps (name_at k c.args.name)
    (map (name_at k) c.args.levels.now) (tree_at k c.args.ty))) c.may_stand.result)
    c.self.view_is c.may_stand.ensures.outcome
