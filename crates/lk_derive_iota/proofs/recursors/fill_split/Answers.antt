use Rattle.std.proofs.Common.{subst}
use Rattle.lk_store.specs.Contents.{Contents, tree_at}
use Rattle.lk_derive_iota.specs.Redexes.{IsSplit}
use Rattle.lk_derive_iota.proofs.RedexRuns.{none_whole}
use Rattle.lk_derive_iota.proofs.recursors.fill_split.Goals as goal

pub returns-in-None-clause-whole : goal.returns-in-None-clause-whole
returns-in-None-clause-whole g c =
    let d : Contents = g.D.Terms.contents c.args.derives.now in
    let basis = (g.D.Looks.sight (g.D.Terms.rest c.args.derives.now)).basis in
    none_whole (subst (IsSplit basis.place d basis.library (tree_at d c.args.e)) c.in-None.is c.requires.split) c.requires.empty c.requires.claimed
