use Rattle.std.proofs.Common.{rules, length, sym, subst}
use Rattle.lk_store.specs.Contents.{tree_at}
use Rattle.lk_store.specs.Layers.{layers_contents, Layers}
use Rattle.lk_ask.specs.Outlook.{Outlook}
use Rattle.lk_ask.specs.Questions.{query_of, IsKnownQuery}
use Rattle.lk_step.specs.Told.{IsAnsweredWithin, IsTold, Leaves}
use Rattle.lk_engine.specs.Lookouts.{place_of}
use Rattle.lk_engine.proofs.Enough.{leaves_sight}
use Rattle.lk_engine.proofs.Lookouts.{sight_at, still_stands}
use Rattle.lk_engine.proofs.derivations.EngineEngineCalls.answer.Goals as goal

pub answer_within-requires-clause-query_in : goal.answer_within-requires-clause-query_in
answer_within-requires-clause-query_in g c =
    subst (λ (s : Outlook Layers). IsKnownQuery (length (layers_contents s.terms).trees)
    c.args.query) (sym c.self.view_is) c.requires.known

pub answer_within-requires-clause-answered : goal.answer_within-requires-clause-answered
answer_within-requires-clause-answered g c =
    subst (λ (s : Outlook Layers). IsAnsweredWithin (place_of s)
    (query_of (tree_at (layers_contents s.terms)) c.args.query) c.args.enough)
    (sym c.self.view_is) c.requires.answered

pub invariant_of-self : goal.invariant_of-self
invariant_of-self g c = rw c.answer_within.ensures.share
    (still_stands c.answer_within.ensures.answers.stays c.self.invariant
    c.answer_within.ensures.answers.entries_true)

pub returns : goal.returns
returns g c = record {
  leaves =
      subst (λ (s : Outlook Layers). Leaves (λ (t : Outlook Layers). layers_contents t.terms)
      (λ (t : Outlook Layers). (t.scope, t.site, t.meter, t.terms.base)) sight_at s
      c.answer_within.new.lookout) c.self.view_is
      (leaves_sight c.answer_within.ensures.answers.stays);
  known = search rules;
  told =
      subst (λ (s : Outlook Layers). IsTold (place_of s)
      (layers_contents c.answer_within.new.lookout.terms)
      (query_of (tree_at (layers_contents s.terms)) c.args.query) c.answer_within.result)
      c.self.view_is c.answer_within.ensures.answers.told;
}
