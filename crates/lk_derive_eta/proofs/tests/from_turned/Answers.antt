use Rattle.std.proofs.Common.{ℕ, subst}
use Rattle.std.specs.Prelude.{None, IfOk}
use Rattle.std.proofs.lemmas.Result.{IfOk-weaker}
use Rattle.lk_rulebook.specs.Place.{Place}
use Rattle.lk_rulebook.specs.Claims.{equals}
use Rattle.lk_store.specs.Contents.{Contents, tree_at}
use Rattle.lk_questions.specs.Eta.{by_structure_eta}
use Rattle.lk_questions.specs.Pairs.{◌or_else◌}
use Rattle.lk_derive_eta.specs.Tails.{after_turned}
use Rattle.lk_step.specs.Tests.{IsYes}
use Rattle.lk_step.specs.Tells.{Tells, Rests}
use Rattle.lk_step.proofs.Moving.{moved2, back2}
use Rattle.lk_step.proofs.Chain.{line_on, line_none, line_some, line_run}
use Rattle.lk_derive_eta.proofs.tests.from_turned.Goals as goal

pub by_structure-requires-clause-run : goal.by_structure-requires-clause-run
by_structure-requires-clause-run g c =
    let w : Place = (g.D.Looks.sight (g.D.Terms.rest c.args.derives.now)).basis.place in
    let d : Contents = g.D.Terms.contents c.args.derives.now in
    let a : ℕ = c.args.a in
    let b : ℕ = c.args.b in
    line_run w (by_structure_eta (tree_at d b) (tree_at d a)) (after_turned (tree_at d a) (tree_at d b)) c.args.enough c.requires.says

pub by_structure-requires-clause-pair : goal.by_structure-requires-clause-pair
by_structure-requires-clause-pair g c =
    let p = c.requires.pair in
    record { stated = p.stated; left = p.right; right = p.left; left_normal = p.right_normal; right_normal = p.left_normal }

pub returns-in-Some-clause-rests : goal.returns-in-Some-clause-rests
returns-in-Some-clause-rests g c =
    let w : Place = (g.D.Looks.sight (g.D.Terms.rest c.args.derives.now)).basis.place in
    let d : Contents = g.D.Terms.contents c.args.derives.now in
    let a : ℕ = c.args.a in
    let b : ℕ = c.args.b in
    let n : Contents = g.D.Terms.contents c.by_structure.new.derives in
    line_some w n (by_structure_eta (tree_at d b) (tree_at d a)) (after_turned (tree_at d a) (tree_at d b)) (equals (tree_at d a) (tree_at d b)) c.in-Some.row
    (subst (λ o. Tells w n (by_structure_eta (tree_at d b) (tree_at d a)) (equals (tree_at d a) (tree_at d b)) o) c.in-Some.is c.in_ok-found.ensures.tells)

pub from_units-requires-clause-says : goal.from_units-requires-clause-says
from_units-requires-clause-says g c =
    let w : Place = (g.D.Looks.sight (g.D.Terms.rest c.args.derives.now)).basis.place in
    let d : Contents = g.D.Terms.contents c.args.derives.now in
    let a : ℕ = c.args.a in
    let b : ℕ = c.args.b in
    let n : Contents = g.D.Terms.contents c.by_structure.new.derives in
    let none : Tells w n (by_structure_eta (tree_at d b) (tree_at d a)) (equals (tree_at d a) (tree_at d b)) None = subst (λ o. Tells w n (by_structure_eta (tree_at d b) (tree_at d a)) (equals (tree_at d a) (tree_at d b)) o) c.in-None.is c.in_ok-found.ensures.tells in
    moved2 c.in_ok-found.ensures.leaves (λ w e f. IsYes w (after_turned e f) c.args.enough) a b c.requires.a_in c.requires.b_in
    (line_on w (by_structure_eta (tree_at d b) (tree_at d a)) (after_turned (tree_at d a) (tree_at d b)) c.args.enough none c.requires.says)

pub returns-in-None-clause-rests : goal.returns-in-None-clause-rests
returns-in-None-clause-rests g c =
    let w : Place = (g.D.Looks.sight (g.D.Terms.rest c.args.derives.now)).basis.place in
    let d : Contents = g.D.Terms.contents c.args.derives.now in
    let a : ℕ = c.args.a in
    let b : ℕ = c.args.b in
    let n : Contents = g.D.Terms.contents c.by_structure.new.derives in
    let o : Contents = g.D.Terms.contents c.from_units.new.derives in
    let none : Tells w n (by_structure_eta (tree_at d b) (tree_at d a)) (equals (tree_at d a) (tree_at d b)) None = subst (λ o. Tells w n (by_structure_eta (tree_at d b) (tree_at d a)) (equals (tree_at d a) (tree_at d b)) o) c.in-None.is c.in_ok-found.ensures.tells in
    IfOk-weaker c.from_units.result (Rests w o (after_turned (tree_at d a) (tree_at d b)) (equals (tree_at d a) (tree_at d b))) (Rests w o ((by_structure_eta (tree_at d b) (tree_at d a)) or_else (after_turned (tree_at d a) (tree_at d b))) (equals (tree_at d a) (tree_at d b)))
    (λ r rests. line_none w o (by_structure_eta (tree_at d b) (tree_at d a)) (after_turned (tree_at d a) (tree_at d b)) (equals (tree_at d a) (tree_at d b)) r none rests)
    (back2 c.in_ok-found.ensures.leaves (λ w e f. IfOk c.from_units.result (Rests w o (after_turned e f) (equals e f))) a b c.requires.a_in c.requires.b_in c.from_units.ensures.rests)
