use Rattle.lk_derive_iota.specs.Only.{only_at}
use Rattle.lk_derive_iota.proofs.Fitting.{none_applied}
use Rattle.std.specs.Prelude.{[]}
use Rattle.lk_derive_iota.proofs.KRuns.{k_only, k_none}
use Rattle.lk_derive_iota.proofs.candidates.by_only.Goals as goal

pub by_type-requires-clause-at : goal.by_type-requires-clause-at
by_type-requires-clause-at g c =
    let h = c.requires.at in
    k_only h c.requires.has_k c.in-Some.constructor (c.in-Some.ensures.is h.R.entry h.R.recursor h.redex.entry_is h.R.kind)

pub returns-in-None-clause-is : goal.returns-in-None-clause-is
returns-in-None-clause-is g c =
    let h = c.requires.at in
    let d = g.D.Terms.contents c.args.derives.now in
    let basis = (g.D.Looks.sight (g.D.Terms.rest c.args.derives.now)).basis in
    k_none h c.requires.has_k (none_applied d basis.library [] (only_at basis.place h.R.recursor.rules) (c.in-None.ensures.is h.R.entry h.R.recursor h.redex.entry_is h.R.kind))
