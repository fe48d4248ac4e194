use Rattle.std.proofs.Common.{length, sym, subst}
use Rattle.lk_ask.specs.Questions.{IsKnownQuery}
use Rattle.lk_store.specs.Layers.{layers_contents}
use Rattle.lk_engine.proofs.Enough.{wants_memory, answers_within}
use Rattle.lk_engine.proofs.Lookouts.{metered_stays, looked_stands}
use Rattle.lk_engine.proofs.derivations.answer_within.Goals as goal

pub answer-outcome-requires-clause-query_in : goal.answer-outcome-requires-clause-query_in
answer-outcome-requires-clause-query_in g c =
    subst (λ l. IsKnownQuery (length (layers_contents l).trees) c.args.query)
    (sym c.allow.ensures.metered.terms) c.requires.query_in

pub answer-outcome-requires-clause-stands : goal.answer-outcome-requires-clause-stands
answer-outcome-requires-clause-stands g c =
    looked_stands (metered_stays c.allow.ensures.metered) c.requires.stands

pub told-requires : goal.told-requires
told-requires g c = wants_memory c.allow.ensures.metered c.allow.ensures.left
    c.answer-outcome.ensures.answers c.requires.answered

pub returns-clause-answers : goal.returns-clause-answers
returns-clause-answers g c = answers_within c.allow.ensures.metered c.allow.ensures.left
    c.answer-outcome.ensures.answers c.requires.answered c.told.result c.told.ensures
