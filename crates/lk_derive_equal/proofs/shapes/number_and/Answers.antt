use Rattle.std.proofs.Common.{ℕ, sym, subst}
use Rattle.std.specs.Prelude.{IfOk}
use Rattle.lk_rulebook.specs.Place.{Place}
use Rattle.lk_rulebook.specs.Claims.{equals}
use Rattle.lk_store.specs.Contents.{Contents, tree_at}
use Rattle.lk_step.specs.Tests.{IsYes}
use Rattle.lk_step.specs.Tells.{Rests}
use Rattle.lk_same.proofs.Shapes.{number_and_other}
use Rattle.lk_derive_equal.proofs.ShapeRows.{lits_same}
use Rattle.lk_derive_equal.proofs.shapes.number_and.Goals as goal

pub unreachable-requires : goal.unreachable-requires
unreachable-requires g c =
    let w : Place = (g.D.Looks.sight (g.D.Terms.rest c.args.derives.now)).basis.place in
    let d : Contents = g.D.Terms.contents c.args.derives.now in
    let a : ℕ = c.args.a in
    let b : ℕ = c.args.b in
    c.requires.pair.unequal (lits_same w (tree_at d a) (tree_at d b) c.args.number c.in-Lit.field-0 c.args.enough c.requires.a_is c.in-Lit.ensures.tree c.requires.says)

pub by_cores-requires-clause-says : goal.by_cores-requires-clause-says
by_cores-requires-clause-says g c =
    let w : Place = (g.D.Looks.sight (g.D.Terms.rest c.args.derives.now)).basis.place in
    let d : Contents = g.D.Terms.contents c.args.derives.now in
    let a : ℕ = c.args.a in
    let b : ℕ = c.args.b in
    let unlike = number_and_other d c.args.number c.view.result (tree_at d a) (tree_at d b) c.in_default.not-Lit c.requires.a_is c.view.ensures.tree in
    subst (λ p. IsYes w p c.args.enough) (sym unlike) c.requires.says

pub returns-clause-rests : goal.returns-clause-rests
returns-clause-rests g c =
    let w : Place = (g.D.Looks.sight (g.D.Terms.rest c.args.derives.now)).basis.place in
    let d : Contents = g.D.Terms.contents c.args.derives.now in
    let a : ℕ = c.args.a in
    let b : ℕ = c.args.b in
    let unlike = number_and_other d c.args.number c.view.result (tree_at d a) (tree_at d b) c.in_default.not-Lit c.requires.a_is c.view.ensures.tree in
    subst (λ p. IfOk c.by_cores.result (Rests w (g.D.Terms.contents c.by_cores.new.derives) p (equals (tree_at d a) (tree_at d b)))) unlike c.by_cores.ensures.rests
