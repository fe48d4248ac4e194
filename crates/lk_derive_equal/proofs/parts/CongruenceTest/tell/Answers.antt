use Rattle.std.proofs.Common.{ℕ}
use Rattle.lk_rulebook.specs.Place.{Place}
use Rattle.lk_store.specs.Contents.{Contents, tree_at}
use Rattle.lk_derive_equal.proofs.PartKinds.{part_other}
use Rattle.lk_derive_equal.proofs.parts.CongruenceTest.tell.Goals as goal

pub returns-in_default-clause-tells : goal.returns-in_default-clause-tells
returns-in_default-clause-tells g c =
    let w : Place = (g.D.Looks.sight (g.D.Terms.rest c.args.derives.now)).basis.place in
    let d : Contents = g.D.Terms.contents c.args.derives.now in
    let a : ℕ = c.args.a in
    let b : ℕ = c.args.b in
    part_other w d (tree_at d a) (tree_at d b) c.view.result c.in_default.not-Const c.in_default.not-Proj c.in_default.not-App c.view.ensures.tree

pub by_spines-requires-clause-applied : goal.by_spines-requires-clause-applied
by_spines-requires-clause-applied g c =
    let d : Contents = g.D.Terms.contents c.args.derives.now in
    (tree_at d c.in-App.field-0, tree_at d c.in-App.field-1, c.in-App.ensures.tree)
