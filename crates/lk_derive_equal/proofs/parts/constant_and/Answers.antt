use Rattle.std.proofs.Common.{ℕ}
use Rattle.lk_rulebook.specs.Place.{Place}
use Rattle.lk_store.specs.Contents.{Contents, name_at, list_at, tree_at}
use Rattle.lk_derive_equal.proofs.PartKinds.{const_other}
use Rattle.lk_derive_equal.proofs.parts.constant_and.Goals as goal

pub returns-in_default-clause-tells : goal.returns-in_default-clause-tells
returns-in_default-clause-tells g c =
    let w : Place = (g.L.Looks.sight (g.L.Terms.rest c.args.looks.now)).basis.place in
    let d : Contents = g.L.Terms.contents c.args.looks.now in
    let a : ℕ = c.args.a in
    let b : ℕ = c.args.b in
    const_other w d (name_at d c.args.left.name) (list_at d c.args.left.levels) c.view.result (tree_at d a) (tree_at d b) c.in_default.not-Const c.requires.left_is.is c.view.ensures.tree
