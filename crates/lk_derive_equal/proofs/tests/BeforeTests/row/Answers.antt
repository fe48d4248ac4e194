use Rattle.std.proofs.Common.{subst}
use Rattle.std.specs.Prelude.{IfOk, None}
use Rattle.std.proofs.lemmas.Result.{IfOk-weaker}
use Rattle.lk_tree.specs.Tree.{Tree}
use Rattle.lk_rulebook.specs.Place.{Place}
use Rattle.lk_rulebook.specs.Claims.{equals}
use Rattle.lk_questions.specs.Program.{Program}
use Rattle.std.specs.Prelude.{Bool}
use Rattle.lk_questions.specs.Pairs.{Line}
use Rattle.lk_store.specs.Contents.{Contents, tree_at}
use Rattle.lk_step.specs.Tests.{IsYes}
use Rattle.lk_step.specs.Tells.{Tells, Rests}
use Rattle.lk_step.proofs.Moving.{moved2, back2}
use Rattle.lk_step.proofs.Chain.{line_run, line_never, line_on, line_none, line_some}
use Rattle.lk_derive_equal.specs.Orders.{first_of}
use Rattle.lk_derive_equal.proofs.tests.BeforeTests.row.Goals as goal

pub tell-requires-clause-run : goal.tell-requires-clause-run
tell-requires-clause-run g c =
    let w : Place = (g.D.Looks.sight (g.D.Terms.rest c.args.derives.now)).basis.place in
    let d : Contents = g.D.Terms.contents c.args.derives.now in
    let a : Tree = tree_at d c.args.a in
    let b : Tree = tree_at d c.args.b in
    line_run w (g.T.Test.line a b) (g.N.Tests.program a b) c.args.enough c.requires.says

pub tell-requires-clause-never_no : goal.tell-requires-clause-never_no
tell-requires-clause-never_no g c =
    let w : Place = (g.D.Looks.sight (g.D.Terms.rest c.args.derives.now)).basis.place in
    let d : Contents = g.D.Terms.contents c.args.derives.now in
    let a : Tree = tree_at d c.args.a in
    let b : Tree = tree_at d c.args.b in
    line_never w (g.T.Test.line a b) (g.N.Tests.program a b) c.args.enough c.requires.says

pub returns-in-Some-clause-rests : goal.returns-in-Some-clause-rests
returns-in-Some-clause-rests g c =
    let w : Place = (g.D.Looks.sight (g.D.Terms.rest c.args.derives.now)).basis.place in
    let d : Contents = g.D.Terms.contents c.args.derives.now in
    let a : Tree = tree_at d c.args.a in
    let b : Tree = tree_at d c.args.b in
    let line : Line = g.T.Test.line a b in
    let n : Contents = g.D.Terms.contents c.tell.new.derives in
    line_some w n line (g.N.Tests.program a b) (equals a b) c.in-Some.row
    (subst (λ o. Tells w n line (equals a b) o) c.in-Some.is c.in_ok-found.ensures.tells)

pub row-requires-clause-says : goal.row-requires-clause-says
row-requires-clause-says g c =
    let w : Place = (g.D.Looks.sight (g.D.Terms.rest c.args.derives.now)).basis.place in
    let d : Contents = g.D.Terms.contents c.args.derives.now in
    let a : Tree = tree_at d c.args.a in
    let b : Tree = tree_at d c.args.b in
    let line : Line = g.T.Test.line a b in
    let n : Contents = g.D.Terms.contents c.tell.new.derives in
    let none : Tells w n line (equals a b) None = subst (λ o. Tells w n line (equals a b) o) c.in-None.is c.in_ok-found.ensures.tells in
    moved2 c.in_ok-found.ensures.leaves (λ w e f. IsYes w (g.N.Tests.program e f) c.args.enough) c.args.a c.args.b c.requires.a_in c.requires.b_in
    (line_on w line (g.N.Tests.program a b) c.args.enough none c.requires.says)

pub returns-in-None-clause-rests : goal.returns-in-None-clause-rests
returns-in-None-clause-rests g c =
    let w : Place = (g.D.Looks.sight (g.D.Terms.rest c.args.derives.now)).basis.place in
    let d : Contents = g.D.Terms.contents c.args.derives.now in
    let a : Tree = tree_at d c.args.a in
    let b : Tree = tree_at d c.args.b in
    let line : Line = g.T.Test.line a b in
    let next : Program Bool = g.N.Tests.program a b in
    let n : Contents = g.D.Terms.contents c.tell.new.derives in
    let o : Contents = g.D.Terms.contents c.row.new.derives in
    let none : Tells w n line (equals a b) None = subst (λ o. Tells w n line (equals a b) o) c.in-None.is c.in_ok-found.ensures.tells in
    IfOk-weaker c.row.result (Rests w o next (equals a b)) (Rests w o (first_of line next) (equals a b))
    (λ r rests. line_none w o line next (equals a b) r none rests)
    (back2 c.in_ok-found.ensures.leaves (λ w e f. IfOk c.row.result (Rests w o (g.N.Tests.program e f) (equals e f))) c.args.a c.args.b c.requires.a_in c.requires.b_in c.row.ensures.rests)
