use Rattle.std.proofs.Common.{[]}
use Rattle.lk_store.specs.Contents.{Contents}
use Rattle.lk_derive_iota.specs.Only.{only_at}
use Rattle.lk_derive_iota.proofs.Fitting.{none_applied}
use Rattle.lk_derive_iota.proofs.SRuns.{s_none, s_only}
use Rattle.lk_derive_iota.proofs.structures.expansion_of.Goals as goal

pub by_parent-requires-clause-at : goal.by_parent-requires-clause-at
by_parent-requires-clause-at g c =
    let h = c.requires.at in
    s_only h c.requires.headless c.in-Some.constructor (c.in-Some.ensures.is h.R.entry h.R.recursor h.redex.entry_is h.R.kind)

pub returns-in-None-clause-is : goal.returns-in-None-clause-is
returns-in-None-clause-is g c =
    let h = c.requires.at in
    let d : Contents = g.D.Terms.contents c.args.derives.now in
    let basis = (g.D.Looks.sight (g.D.Terms.rest c.args.derives.now)).basis in
    s_none h c.requires.headless (none_applied d basis.library [] (only_at basis.place h.R.recursor.rules) (c.in-None.ensures.is h.R.entry h.R.recursor h.redex.entry_is h.R.kind))
