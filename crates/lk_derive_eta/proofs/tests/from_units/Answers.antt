use Rattle.std.proofs.Common.{ℕ, subst}
use Rattle.std.specs.Prelude.{None, IfOk}
use Rattle.std.proofs.lemmas.Result.{IfOk-weaker}
use Rattle.lk_rulebook.specs.Place.{Place}
use Rattle.lk_rulebook.specs.Claims.{equals}
use Rattle.lk_store.specs.Contents.{Contents, tree_at}
use Rattle.lk_questions.specs.Eta.{by_unit_eta}
use Rattle.lk_questions.specs.Pairs.{◌or_else◌}
use Rattle.lk_derive_eta.specs.Texts.{texts_alone}
use Rattle.lk_step.specs.Tests.{IsYes}
use Rattle.lk_step.specs.Tells.{Tells, Rests}
use Rattle.lk_step.proofs.Moving.{moved2, back2}
use Rattle.lk_step.proofs.Chain.{line_on, line_none, line_some}
use Rattle.lk_derive_eta.proofs.Opens.{line_open}
use Rattle.lk_derive_eta.proofs.tests.from_units.Goals as goal

pub by_units-requires-clause-run : goal.by_units-requires-clause-run
by_units-requires-clause-run g c =
    let w : Place = (g.D.Looks.sight (g.D.Terms.rest c.args.derives.now)).basis.place in
    let d : Contents = g.D.Terms.contents c.args.derives.now in
    let a : ℕ = c.args.a in
    let b : ℕ = c.args.b in
    line_open w (by_unit_eta (tree_at d a) (tree_at d b)) (texts_alone (tree_at d a) (tree_at d b)) c.args.enough c.requires.says

pub returns-in-Some-clause-rests : goal.returns-in-Some-clause-rests
returns-in-Some-clause-rests g c =
    let w : Place = (g.D.Looks.sight (g.D.Terms.rest c.args.derives.now)).basis.place in
    let d : Contents = g.D.Terms.contents c.args.derives.now in
    let a : ℕ = c.args.a in
    let b : ℕ = c.args.b in
    let n : Contents = g.D.Terms.contents c.by_units.new.derives in
    line_some w n (by_unit_eta (tree_at d a) (tree_at d b)) (texts_alone (tree_at d a) (tree_at d b)) (equals (tree_at d a) (tree_at d b)) c.in-Some.row
    (subst (λ o. Tells w n (by_unit_eta (tree_at d a) (tree_at d b)) (equals (tree_at d a) (tree_at d b)) o) c.in-Some.is c.in_ok-found.ensures.tells)

pub by_texts-requires-clause-says : goal.by_texts-requires-clause-says
by_texts-requires-clause-says g c =
    let w : Place = (g.D.Looks.sight (g.D.Terms.rest c.args.derives.now)).basis.place in
    let d : Contents = g.D.Terms.contents c.args.derives.now in
    let a : ℕ = c.args.a in
    let b : ℕ = c.args.b in
    let n : Contents = g.D.Terms.contents c.by_units.new.derives in
    let none : Tells w n (by_unit_eta (tree_at d a) (tree_at d b)) (equals (tree_at d a) (tree_at d b)) None = subst (λ o. Tells w n (by_unit_eta (tree_at d a) (tree_at d b)) (equals (tree_at d a) (tree_at d b)) o) c.in-None.is c.in_ok-found.ensures.tells in
    moved2 c.in_ok-found.ensures.leaves (λ w e f. IsYes w (texts_alone e f) c.args.enough) a b c.requires.a_in c.requires.b_in
    (line_on w (by_unit_eta (tree_at d a) (tree_at d b)) (texts_alone (tree_at d a) (tree_at d b)) c.args.enough none c.requires.says)

pub returns-in-None-clause-rests : goal.returns-in-None-clause-rests
returns-in-None-clause-rests g c =
    let w : Place = (g.D.Looks.sight (g.D.Terms.rest c.args.derives.now)).basis.place in
    let d : Contents = g.D.Terms.contents c.args.derives.now in
    let a : ℕ = c.args.a in
    let b : ℕ = c.args.b in
    let n : Contents = g.D.Terms.contents c.by_units.new.derives in
    let o : Contents = g.D.Terms.contents c.by_texts.new.derives in
    let none : Tells w n (by_unit_eta (tree_at d a) (tree_at d b)) (equals (tree_at d a) (tree_at d b)) None = subst (λ o. Tells w n (by_unit_eta (tree_at d a) (tree_at d b)) (equals (tree_at d a) (tree_at d b)) o) c.in-None.is c.in_ok-found.ensures.tells in
    IfOk-weaker c.by_texts.result (Rests w o (texts_alone (tree_at d a) (tree_at d b)) (equals (tree_at d a) (tree_at d b))) (Rests w o ((by_unit_eta (tree_at d a) (tree_at d b)) or_else (texts_alone (tree_at d a) (tree_at d b))) (equals (tree_at d a) (tree_at d b)))
    (λ r rests. line_none w o (by_unit_eta (tree_at d a) (tree_at d b)) (texts_alone (tree_at d a) (tree_at d b)) (equals (tree_at d a) (tree_at d b)) r none rests)
    (back2 c.in_ok-found.ensures.leaves (λ w e f. IfOk c.by_texts.result (Rests w o (texts_alone e f) (equals e f))) a b c.requires.a_in c.requires.b_in c.by_texts.ensures.rests)
