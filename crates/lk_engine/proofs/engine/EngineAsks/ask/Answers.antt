use Rattle.std.proofs.Common.{length, ap, sym, subst, ◌∙◌}
use Rattle.lk_ask.specs.Questions.{IsKnownQuery}
use Rattle.lk_ask.specs.Outcomes.{IsOutcome}
use Rattle.lk_engine.specs.Lookouts.{standing_at, out_at}
use Rattle.lk_engine.proofs.Lookouts.{standing_stays, still_stands}
use Rattle.lk_engine.proofs.Outcomes.{exactly_so}
use Rattle.lk_store.specs.Layers.{layers_contents}
use Rattle.lk_engine.proofs.engine.EngineAsks.ask.Goals as goal

pub answer-requires-clause-query_in : goal.answer-requires-clause-query_in
answer-requires-clause-query_in g c = subst
    (λ s. IsKnownQuery (length (layers_contents s.terms).trees) c.args.query)
    (sym c.self.view_is) c.requires

pub invariant_of-self : goal.invariant_of-self
invariant_of-self g c = rw c.answer.ensures.share
    (still_stands c.answer.ensures.answers.stays c.self.invariant
    c.answer.ensures.answers.entries_true)

pub returns-clause-outcome : goal.returns-clause-outcome
returns-clause-outcome g c =
    let new = c.answer.new.lookout in
    let after = layers_contents new.terms in
    subst (λ s. IsOutcome after (out_at layers_contents s c.args.query) new.meter.left
    c.answer.result) c.self.view_is
    (exactly_so after (out_at layers_contents c.self.inside.lookout c.args.query)
    new.meter.left new.meter.last c.answer.result c.answer.ensures.answers.outcome)

pub returns-clause-stays : goal.returns-clause-stays
returns-clause-stays g c = standing_stays c.answer.ensures.answers.stays
    ∙ ap (λ s. standing_at s.scope s.site) c.self.view_is
