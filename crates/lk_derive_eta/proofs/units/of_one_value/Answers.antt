use Rattle.std.proofs.Common.{◌≡◌}
use Rattle.lk_tree.specs.Tree.{Tree}
use Rattle.lk_rulebook.specs.Place.{Place}
use Rattle.lk_rulebook.specs.Claims.{equals}
use Rattle.lk_store.specs.Contents.{Contents, tree_at}
use Rattle.lk_step.proofs.Moving.{tree_stays}
use Rattle.lk_step.proofs.Bases.{basis_made}
use Rattle.lk_derive_eta.proofs.UnitLine.{unit_right, unit_basis}
use Rattle.lk_derive_eta.proofs.units.of_one_value.Goals as goal

pub type_of-requires-clause-answered : goal.type_of-requires-clause-answered
type_of-requires-clause-answered g c =
    let w : Place = (g.D.Looks.sight (g.D.Terms.rest c.args.derives.now)).basis.place in
    let d : Contents = g.D.Terms.contents c.args.derives.now in
    let p = c.requires.one in
    unit_right w (tree_at d c.args.a) (tree_at d c.args.b) (tree_at d c.args.ty) (tree_at d c.args.form) p.typed p.formed p.one c.args.enough c.requires.run

pub returns-clause-tells : goal.returns-clause-tells
returns-clause-tells g c =
    let w : Place = (g.D.Looks.sight (g.D.Terms.rest c.args.derives.now)).basis.place in
    let d : Contents = g.D.Terms.contents c.args.derives.now in
    let n : Contents = g.D.Terms.contents c.type_of.new.derives in
    let p = c.requires.one in
    let B : Tree = tree_at n c.in_ok-other.other in
    let l = c.in_ok-other.ensures.leaves in
    let a_same : tree_at n c.args.a ≡ tree_at d c.args.a = tree_stays l c.args.a c.requires.a_in in
    let b_same : tree_at n c.args.b ≡ tree_at d c.args.b = tree_stays l c.args.b c.requires.b_in in
    let ty_same : tree_at n c.args.ty ≡ tree_at d c.args.ty = tree_stays l c.args.ty p.ty_in in
    let form_same : tree_at n c.args.form ≡ tree_at d c.args.form = tree_stays l c.args.form p.form_in in
    λ says cost h. basis_made w n (equals (tree_at d c.args.a) (tree_at d c.args.b)) cost _ _ c.in_ok-row.row c.in_ok-row.ensures.row
    (rw (a_same, b_same, ty_same, form_same)
    (unit_basis w (tree_at d c.args.a) (tree_at d c.args.b) (tree_at d c.args.ty) (tree_at d c.args.form) p.typed p.formed p.one B c.in_ok-other.ensures.told c.requires.pair c.args.enough c.requires.run says cost h))
