use Rattle.std.proofs.Common.{None, subst}
use Rattle.lk_tree.specs.Tree.{Tree}
use Rattle.lk_rulebook.specs.Place.{Place}
use Rattle.lk_rulebook.specs.Claims.{equals}
use Rattle.lk_questions.specs.LiteralLines.{step_second, same_numbers}
use Rattle.lk_store.specs.Contents.{Contents, tree_at}
use Rattle.lk_step.specs.Tells.{Tells}
use Rattle.lk_step.proofs.Moving.{moved2}
use Rattle.lk_derive_lit.specs.Undenied.{IsUndenied, NeverDenies}
use Rattle.lk_derive_lit.proofs.Undenied.{undenied_first, undenied_second, tells_first, tells_behind, never_denies}
use Rattle.lk_derive_lit.proofs.literals.from_second.Goals as goal

pub by_second-requires-clause-run : goal.by_second-requires-clause-run
by_second-requires-clause-run g c =
    let t = tree_at (g.D.Terms.contents c.args.derives.now) in
    let w : Place = (g.D.Looks.sight (g.D.Terms.rest c.args.derives.now)).basis.place in
    undenied_first w (step_second (t c.args.a) (t c.args.b)) (same_numbers (t c.args.a) (t c.args.b)) c.args.enough c.requires.run

pub by_numbers-requires-clause-undenied : goal.by_numbers-requires-clause-undenied
by_numbers-requires-clause-undenied g c =
    let old : Contents = g.D.Terms.contents c.args.derives.now in
    let d : Contents = g.D.Terms.contents c.by_second.new.derives in
    let w : Place = (g.D.Looks.sight (g.D.Terms.rest c.args.derives.now)).basis.place in
    let x : Tree = tree_at old c.args.a in
    let y : Tree = tree_at old c.args.b in
    let none : Tells w d (step_second x y) (equals x y) None = subst (λ o. Tells w d (step_second x y) (equals x y) o) c.in-None.is c.in_ok-found.ensures.tells in
    let rest : IsUndenied w (same_numbers x y) c.args.enough = undenied_second w (step_second x y) (same_numbers x y) c.args.enough none c.requires.run in
    moved2 c.by_second.ensures.leaves (λ z u v. NeverDenies z (same_numbers u v)) c.args.a c.args.b c.requires.a_in c.requires.b_in (never_denies w (same_numbers x y) c.args.enough rest)

pub returns-in-Some-clause-tells : goal.returns-in-Some-clause-tells
returns-in-Some-clause-tells g c =
    let old : Contents = g.D.Terms.contents c.args.derives.now in
    let d : Contents = g.D.Terms.contents c.by_second.new.derives in
    let w : Place = (g.D.Looks.sight (g.D.Terms.rest c.args.derives.now)).basis.place in
    let x : Tree = tree_at old c.args.a in
    let y : Tree = tree_at old c.args.b in
    tells_first w d (step_second x y) (same_numbers x y) (equals x y) c.in-Some.row (subst (λ o. Tells w d (step_second x y) (equals x y) o) c.in-Some.is c.in_ok-found.ensures.tells)

pub returns-in-None-clause-tells : goal.returns-in-None-clause-tells
returns-in-None-clause-tells g c =
    let old : Contents = g.D.Terms.contents c.args.derives.now in
    let d : Contents = g.D.Terms.contents c.by_second.new.derives in
    let e : Contents = g.D.Terms.contents c.by_numbers.new.derives in
    let w : Place = (g.D.Looks.sight (g.D.Terms.rest c.args.derives.now)).basis.place in
    let w1 : Place = (g.D.Looks.sight (g.D.Terms.rest c.by_second.new.derives)).basis.place in
    let x : Tree = tree_at old c.args.a in
    let y : Tree = tree_at old c.args.b in
    let s = c.by_second.ensures.leaves in
    let none : Tells w d (step_second x y) (equals x y) None = subst (λ o. Tells w d (step_second x y) (equals x y) o) c.in-None.is c.in_ok-found.ensures.tells in
    tells_behind w w1 e (step_second x y) (λ u v. same_numbers u v) x y (tree_at d c.args.a) (tree_at d c.args.b) c.by_numbers.result s.place (s.keeps.trees.same c.args.a c.requires.a_in) (s.keeps.trees.same c.args.b c.requires.b_in) none c.by_numbers.ensures.tells
