use Rattle.std.proofs.Common.{ℕ}
use Rattle.lk_rulebook.specs.Place.{Place}
use Rattle.lk_store.specs.Contents.{Contents, name_at, tree_at}
use Rattle.lk_derive_equal.proofs.PartKinds.{proj_other}
use Rattle.lk_derive_equal.proofs.parts.projection_and.Goals as goal

pub returns-in_default-clause-tells : goal.returns-in_default-clause-tells
returns-in_default-clause-tells g c =
    let w : Place = (g.D.Looks.sight (g.D.Terms.rest c.args.derives.now)).basis.place in
    let d : Contents = g.D.Terms.contents c.args.derives.now in
    let a : ℕ = c.args.a in
    let b : ℕ = c.args.b in
    let p = c.args.left in
    proj_other w d (name_at d p.name) p.field (tree_at d p.subject) c.view.result (tree_at d a) (tree_at d b) c.in_default.not-Proj c.requires.left_is.is c.view.ensures.tree
