use Rattle.std.proofs.Common.{◌∙◌}
use Rattle.lk_store.specs.Contents.{tree_at}
use Rattle.lk_derive_types.proofs.PartSteps.{sorted_second, sorted_sort, sort_node}
use Rattle.lk_derive_types.proofs.parts.sort_of.Goals as goal

pub form_of-requires-clause-answered : goal.form_of-requires-clause-answered
form_of-requires-clause-answered g c =
    let w = (g.D.Looks.sight (g.D.Terms.rest c.args.derives.now)).basis.place in
    let u = (g.D.Looks.sight (g.D.Terms.rest c.type_of.new.derives)).basis.place in
    sorted_second w u (tree_at (g.D.Terms.contents c.args.derives.now) c.args.e) (tree_at (g.D.Terms.contents c.type_of.new.derives) c.in_ok-ty.ty) c.args.enough c.type_of.ensures.leaves.place c.requires.sorted c.in_ok-ty.ensures.told

pub unreachable-requires : goal.unreachable-requires
unreachable-requires g c =
    let w = (g.D.Looks.sight (g.D.Terms.rest c.args.derives.now)).basis.place in
    let u = (g.D.Looks.sight (g.D.Terms.rest c.type_of.new.derives)).basis.place in
    let new = g.D.Terms.contents c.form_of.new.derives in
    let x = sorted_sort w u (tree_at (g.D.Terms.contents c.args.derives.now) c.args.e) (tree_at (g.D.Terms.contents c.type_of.new.derives) c.in_ok-ty.ty) (tree_at new c.in_ok-sort.sort)
    c.args.enough c.type_of.ensures.leaves.place c.requires.sorted c.in_ok-ty.ensures.told c.in_ok-sort.ensures.told in
    let n = sort_node new c.view.result x.0 (c.view.ensures.tree ∙ x.1) in
    c.in_default.not-Sort n.0 n.1
