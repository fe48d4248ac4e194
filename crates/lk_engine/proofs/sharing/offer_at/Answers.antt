use Rattle.std.proofs.Common.{refl, sym, subst}
use Rattle.lk_store.specs.Contents.{Extends}
use Rattle.lk_store.specs.Store.{contents_of}
use Rattle.lk_store.specs.Layers.{layers_contents}
use Rattle.lk_desk.specs.Truth.{IsTablesOf}
use Rattle.lk_engine.specs.Shares.{LastsAt}
use Rattle.lk_engine.proofs.Shared.{here_shared, tables_shared}
use Rattle.lk_engine.proofs.sharing.offer_at.Goals as goal

pub leave-requires-clause-tables : goal.leave-requires-clause-tables
leave-requires-clause-tables c =
    subst (λ s. IsTablesOf c.args.share.now.job s.terms.base) (sym c.lookout.view_is)
    (tables_shared c.requires.shares c.requires.base)

pub leave-requires-clause-over : goal.leave-requires-clause-over
leave-requires-clause-over c =
    subst (λ s. Extends (contents_of s.terms.base) (layers_contents s.terms))
    (sym c.lookout.view_is) c.requires.over

pub leave-requires-clause-query_in : goal.leave-requires-clause-query_in
leave-requires-clause-query_in c = (c.if-not-is_for.ensures refl).query

pub leave-requires-clause-lasts : goal.leave-requires-clause-lasts
leave-requires-clause-lasts c =
    subst (λ s. LastsAt c.args.share.now.job (layers_contents s.terms) c.args.query
    c.args.kept)
    (sym c.lookout.view_is)
    (here_shared c.requires.shares _ c.args.query c.args.kept _ (c.if-not-is_for.ensures refl)
    c.requires.is)
