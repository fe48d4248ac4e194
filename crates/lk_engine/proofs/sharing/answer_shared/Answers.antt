use Rattle.std.specs.Prelude.{IfSome}
use Rattle.std.proofs.Common.{sym, subst}
use Rattle.lk_engine.specs.Entries.{IsTrueAt}
use Rattle.lk_engine.proofs.Frames.{query_known}
use Rattle.lk_engine.proofs.Lookouts.{place_stays, still_stands}
use Rattle.lk_engine.proofs.Shared.{answers_after, kept_after}
use Rattle.lk_store.specs.Layers.{layers_contents}
use Rattle.lk_engine.proofs.sharing.answer_shared.Goals as goal

pub answer_after-requires-clause-query_in : goal.answer_after-requires-clause-query_in
answer_after-requires-clause-query_in c =
    query_known c.fetch-found.ensures.fetches.stays.keeps _ c.requires.query_in

pub answer_after-requires-clause-stands : goal.answer_after-requires-clause-stands
answer_after-requires-clause-stands c = rw c.fetch-found.ensures.share
    (still_stands c.fetch-found.ensures.fetches.stays c.requires.stands
    c.fetch-found.ensures.fetches.entries_true)

pub answer_after-requires-clause-found : goal.answer_after-requires-clause-found
answer_after-requires-clause-found c =
    let new = c.fetch-found.new.lookout in
    subst (λ w. IfSome c.fetch-found.result
    (IsTrueAt w (layers_contents new.terms) c.args.query))
    (sym (place_stays c.fetch-found.ensures.fetches.stays)) c.fetch-found.ensures.found

pub returns-clause-answers : goal.returns-clause-answers
returns-clause-answers c =
    let f = c.fetch-found.ensures.fetches in
    answers_after f.stays f.meter c.requires.query_in c.answer_after.ensures.answers

pub returns-clause-kept : goal.returns-clause-kept
returns-clause-kept c = kept_after c.fetch-found.ensures.fetches.meter c.fetch-found.result
    c.fetch-found.ensures.lacks c.answer_after.ensures.found c.answer_after.ensures.kept
