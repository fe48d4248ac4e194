use Rattle.std.proofs.Common.{ℕ, sym, subst}
use Rattle.std.specs.Prelude.{IfOk}
use Rattle.lk_rulebook.specs.Place.{Place}
use Rattle.lk_rulebook.specs.Claims.{equals}
use Rattle.lk_store.specs.Contents.{Contents, level_at, tree_at}
use Rattle.std.proofs.lemmas.Result.{IfOk-weaker}
use Rattle.lk_questions.specs.Same.{by_shape}
use Rattle.lk_step.specs.Tests.{IsYes}
use Rattle.lk_step.specs.Tells.{Rests}
use Rattle.lk_step.proofs.Bases.{basis_made}
use Rattle.lk_same.proofs.Shapes.{sort_and_other}
use Rattle.lk_derive_equal.proofs.ShapeRows.{sorts_basis}
use Rattle.lk_derive_equal.proofs.shapes.sort_and.Goals as goal

pub returns-in-Sort-clause-rests : goal.returns-in-Sort-clause-rests
returns-in-Sort-clause-rests g c =
    let w : Place = (g.D.Looks.sight (g.D.Terms.rest c.args.derives.now)).basis.place in
    let d : Contents = g.D.Terms.contents c.args.derives.now in
    let a : ℕ = c.args.a in
    let b : ℕ = c.args.b in
    IfOk-weaker c.sorts_row.result _ (Rests w d (by_shape (tree_at d a) (tree_at d b)) (equals (tree_at d a) (tree_at d b)))
    (λ r made cost h. basis_made w d (equals (tree_at d a) (tree_at d b)) cost _ _ r made (sorts_basis w (tree_at d a) (tree_at d b) (level_at d c.args.level) (level_at d c.in-Sort.field-0) (sym c.requires.a_is) (sym c.in-Sort.ensures.tree) cost h))
    c.sorts_row.ensures.row

pub by_cores-requires-clause-says : goal.by_cores-requires-clause-says
by_cores-requires-clause-says g c =
    let w : Place = (g.D.Looks.sight (g.D.Terms.rest c.args.derives.now)).basis.place in
    let d : Contents = g.D.Terms.contents c.args.derives.now in
    let a : ℕ = c.args.a in
    let b : ℕ = c.args.b in
    let unlike = sort_and_other d (level_at d c.args.level) c.view.result (tree_at d a) (tree_at d b) c.in_default.not-Sort c.requires.a_is c.view.ensures.tree in
    subst (λ p. IsYes w p c.args.enough) (sym unlike) c.requires.says

pub returns-in_default-clause-rests : goal.returns-in_default-clause-rests
returns-in_default-clause-rests g c =
    let w : Place = (g.D.Looks.sight (g.D.Terms.rest c.args.derives.now)).basis.place in
    let d : Contents = g.D.Terms.contents c.args.derives.now in
    let a : ℕ = c.args.a in
    let b : ℕ = c.args.b in
    let unlike = sort_and_other d (level_at d c.args.level) c.view.result (tree_at d a) (tree_at d b) c.in_default.not-Sort c.requires.a_is c.view.ensures.tree in
    subst (λ p. IfOk c.by_cores.result (Rests w (g.D.Terms.contents c.by_cores.new.derives) p (equals (tree_at d a) (tree_at d b)))) unlike c.by_cores.ensures.rests
