use Rattle.std.proofs.Common.{ℕ, sym, subst}
use Rattle.std.specs.Prelude.{IfOk}
use Rattle.lk_rulebook.specs.Place.{Place}
use Rattle.lk_rulebook.specs.Claims.{equals}
use Rattle.lk_store.specs.Contents.{Contents, tree_at}
use Rattle.lk_step.specs.Tests.{IsYes}
use Rattle.lk_step.specs.Tells.{Rests}
use Rattle.lk_same.proofs.Shapes.{pi_and_other}
use Rattle.lk_derive_equal.proofs.shapes.pi_and.Goals as goal

pub by_cores-requires-clause-says : goal.by_cores-requires-clause-says
by_cores-requires-clause-says g c =
    let w : Place = (g.D.Looks.sight (g.D.Terms.rest c.args.derives.now)).basis.place in
    let d : Contents = g.D.Terms.contents c.args.derives.now in
    let a : ℕ = c.args.a in
    let b : ℕ = c.args.b in
    let unlike = pi_and_other d (tree_at d c.args.first.domain) (tree_at d c.args.first.body) c.view.result (tree_at d a) (tree_at d b) c.in_default.not-Pi c.requires.a_is c.view.ensures.tree in
    subst (λ p. IsYes w p c.args.enough) (sym unlike) c.requires.says

pub returns-in_default-clause-rests : goal.returns-in_default-clause-rests
returns-in_default-clause-rests g c =
    let w : Place = (g.D.Looks.sight (g.D.Terms.rest c.args.derives.now)).basis.place in
    let d : Contents = g.D.Terms.contents c.args.derives.now in
    let a : ℕ = c.args.a in
    let b : ℕ = c.args.b in
    let unlike = pi_and_other d (tree_at d c.args.first.domain) (tree_at d c.args.first.body) c.view.result (tree_at d a) (tree_at d b) c.in_default.not-Pi c.requires.a_is c.view.ensures.tree in
    subst (λ p. IfOk c.by_cores.result (Rests w (g.D.Terms.contents c.by_cores.new.derives) p (equals (tree_at d a) (tree_at d b)))) unlike c.by_cores.ensures.rests
