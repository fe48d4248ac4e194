use Rattle.std.proofs.Common.{sym, ◌∙◌, subst}
use Rattle.lk_tree.specs.Tree.{Tree}
use Rattle.lk_rulebook.specs.Place.{Place}
use Rattle.lk_questions.specs.Query.{whnf}
use Rattle.lk_store.specs.Contents.{tree_at}
use Rattle.lk_step.specs.Told.{IsAnsweredWithin, IsForm}
use Rattle.lk_derive_equal.proofs.Sorting.{sort_asks, is_a_sort, no_other_sort}
use Rattle.lk_derive_equal.proofs.sorts.sort_of.Goals as goal

pub form_of-requires-clause-answered : goal.form_of-requires-clause-answered
form_of-requires-clause-answered g c =
    let w : Place = (g.D.Looks.sight (g.D.Terms.rest c.args.derives.now)).basis.place in
    let e : Tree = tree_at (g.D.Terms.contents c.args.derives.now) c.args.e in
    let T : Tree = tree_at (g.D.Terms.contents c.type_of.new.derives) c.in_ok-ty.ty in
    subst (λ w. IsAnsweredWithin w (whnf T) c.args.enough) (sym c.in_ok-ty.ensures.leaves.place) (sort_asks w e T c.args.enough c.requires.run c.in_ok-ty.ensures.told)

pub unreachable-requires : goal.unreachable-requires
unreachable-requires g c =
    let w : Place = (g.D.Looks.sight (g.D.Terms.rest c.args.derives.now)).basis.place in
    let e : Tree = tree_at (g.D.Terms.contents c.args.derives.now) c.args.e in
    let T : Tree = tree_at (g.D.Terms.contents c.type_of.new.derives) c.in_ok-ty.ty in
    let S : Tree = tree_at (g.D.Terms.contents c.form_of.new.derives) c.in_ok-form.form in
    let f : IsForm w T S = subst (λ w. IsForm w T S) c.in_ok-ty.ensures.leaves.place c.in_ok-form.ensures.told in
    let is = is_a_sort w e T S c.args.enough c.requires.run c.in_ok-ty.ensures.told f in
    no_other_sort (g.D.Terms.contents c.form_of.new.derives) c.view.result c.in_default.not-Sort is.0 (c.view.ensures.tree ∙ is.1)
