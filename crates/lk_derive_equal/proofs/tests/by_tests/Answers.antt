use Rattle.std.proofs.Common.{Bool, sym, subst}
use Rattle.std.specs.Prelude.{IfOk}
use Rattle.lk_tree.specs.Tree.{Tree}
use Rattle.lk_rulebook.specs.Place.{Place}
use Rattle.lk_rulebook.specs.Claims.{equals}
use Rattle.lk_questions.specs.Program.{Program}
use Rattle.lk_store.specs.Contents.{Contents, tree_at}
use Rattle.lk_step.specs.Tests.{IsYes}
use Rattle.lk_step.specs.Tells.{Rests}
use Rattle.lk_derive_equal.proofs.tests.by_tests.Goals as goal

pub row-requires-clause-says : goal.row-requires-clause-says
row-requires-clause-says g c =
    let w : Place = (g.D.Looks.sight (g.D.Terms.rest c.args.derives.now)).basis.place in
    let d : Contents = g.D.Terms.contents c.args.derives.now in
    subst (λ (p : Program Bool). IsYes w p c.args.enough) (sym (g.met.N.AllTests.whole (tree_at d c.args.a) (tree_at d c.args.b))) c.requires.says

pub returns-clause-rests : goal.returns-clause-rests
returns-clause-rests g c =
    let w : Place = (g.D.Looks.sight (g.D.Terms.rest c.args.derives.now)).basis.place in
    let d : Contents = g.D.Terms.contents c.args.derives.now in
    let a : Tree = tree_at d c.args.a in
    let b : Tree = tree_at d c.args.b in
    let n : Contents = g.D.Terms.contents c.row.new.derives in
    subst (λ (p : Program Bool). IfOk c.row.result (Rests w n p (equals a b))) (g.met.N.AllTests.whole a b) c.row.ensures.rests
