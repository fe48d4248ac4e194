use Rattle.lk_store.specs.Contents.{Contents}
use Rattle.lk_constructor.proofs.Giving.{entry_there}
use Rattle.lk_derive_iota.proofs.SRuns.{s_plain, some_builds, none_builds}
use Rattle.lk_derive_iota.proofs.structures.by_parent.Goals as goal

pub by_form-requires-clause-at : goal.by_form-requires-clause-at
by_form-requires-clause-at g c =
    let h = c.requires.at in
    let d : Contents = g.D.Terms.contents c.args.derives.now in
    let b = (g.D.Looks.sight (g.D.Terms.rest c.args.derives.now)).basis in
    let there = entry_there b (g.D.Scope.Lends.lent c.scope.result.now) c.args.constructor.entry h.b.entry c.scope.ensures.is h.is.entry_is in
    record { parent = h; like = some_builds d c.in-Some.field-0 h.b h.is.kind_is (rw c.in-Some.is at c.in_ok-structure.ensures.is h.b.entry there) }

pub returns-in-None-clause-is : goal.returns-in-None-clause-is
returns-in-None-clause-is g c =
    let h = c.requires.at in
    let d : Contents = g.D.Terms.contents c.args.derives.now in
    let b = (g.D.Looks.sight (g.D.Terms.rest c.args.derives.now)).basis in
    let there = entry_there b (g.D.Scope.Lends.lent c.scope.result.now) c.args.constructor.entry h.b.entry c.scope.ensures.is h.is.entry_is in
    s_plain c.args.constructor h (none_builds d h.b h.is.kind_is (rw c.in-None.is at c.in_ok-structure.ensures.is h.b.entry there))
