use Rattle.std.proofs.Common.{None, subst}
use Rattle.lk_tree.specs.Tree.{Tree}
use Rattle.lk_rulebook.specs.Place.{Place}
use Rattle.lk_rulebook.specs.Claims.{equals}
use Rattle.lk_questions.specs.LiteralLines.{step_first, by_literals}
use Rattle.lk_store.specs.Contents.{Contents, tree_at}
use Rattle.lk_step.specs.Tells.{Tells}
use Rattle.lk_step.proofs.Moving.{moved2}
use Rattle.lk_derive_lit.specs.Undenied.{IsUndenied, after_first}
use Rattle.lk_derive_lit.proofs.Undenied.{undenied_of, undenied_first, undenied_second, tells_first, tells_behind}
use Rattle.lk_derive_lit.proofs.literals.by_literals.Goals as goal

pub by_first-requires-clause-run : goal.by_first-requires-clause-run
by_first-requires-clause-run g c =
    let t = tree_at (g.D.Terms.contents c.args.derives.now) in
    let w : Place = (g.D.Looks.sight (g.D.Terms.rest c.args.derives.now)).basis.place in
    undenied_first w (step_first (t c.args.a) (t c.args.b)) (after_first (t c.args.a) (t c.args.b)) c.args.enough
    (undenied_of w (by_literals (t c.args.a) (t c.args.b)) c.args.enough c.requires.run c.requires.never_no)

pub from_second-requires-clause-run : goal.from_second-requires-clause-run
from_second-requires-clause-run g c =
    let old : Contents = g.D.Terms.contents c.args.derives.now in
    let d : Contents = g.D.Terms.contents c.by_first.new.derives in
    let w : Place = (g.D.Looks.sight (g.D.Terms.rest c.args.derives.now)).basis.place in
    let x : Tree = tree_at old c.args.a in
    let y : Tree = tree_at old c.args.b in
    let none : Tells w d (step_first x y) (equals x y) None = subst (λ o. Tells w d (step_first x y) (equals x y) o) c.in-None.is c.in_ok-found.ensures.tells in
    let rest : IsUndenied w (after_first x y) c.args.enough = undenied_second w (step_first x y) (after_first x y) c.args.enough none (undenied_of w (by_literals x y) c.args.enough c.requires.run c.requires.never_no) in
    moved2 c.by_first.ensures.leaves (λ z u v. IsUndenied z (after_first u v) c.args.enough) c.args.a c.args.b c.requires.a_in c.requires.b_in rest

pub returns-in-Some-clause-tells : goal.returns-in-Some-clause-tells
returns-in-Some-clause-tells g c =
    let old : Contents = g.D.Terms.contents c.args.derives.now in
    let d : Contents = g.D.Terms.contents c.by_first.new.derives in
    let w : Place = (g.D.Looks.sight (g.D.Terms.rest c.args.derives.now)).basis.place in
    let x : Tree = tree_at old c.args.a in
    let y : Tree = tree_at old c.args.b in
    tells_first w d (step_first x y) (after_first x y) (equals x y) c.in-Some.row (subst (λ o. Tells w d (step_first x y) (equals x y) o) c.in-Some.is c.in_ok-found.ensures.tells)

pub returns-in-None-clause-tells : goal.returns-in-None-clause-tells
returns-in-None-clause-tells g c =
    let old : Contents = g.D.Terms.contents c.args.derives.now in
    let d : Contents = g.D.Terms.contents c.by_first.new.derives in
    let e : Contents = g.D.Terms.contents c.from_second.new.derives in
    let w : Place = (g.D.Looks.sight (g.D.Terms.rest c.args.derives.now)).basis.place in
    let w1 : Place = (g.D.Looks.sight (g.D.Terms.rest c.by_first.new.derives)).basis.place in
    let x : Tree = tree_at old c.args.a in
    let y : Tree = tree_at old c.args.b in
    let s = c.by_first.ensures.leaves in
    let none : Tells w d (step_first x y) (equals x y) None = subst (λ o. Tells w d (step_first x y) (equals x y) o) c.in-None.is c.in_ok-found.ensures.tells in
    tells_behind w w1 e (step_first x y) (λ u v. after_first u v) x y (tree_at d c.args.a) (tree_at d c.args.b) c.from_second.result s.place (s.keeps.trees.same c.args.a c.requires.a_in) (s.keeps.trees.same c.args.b c.requires.b_in) none c.from_second.ensures.tells
