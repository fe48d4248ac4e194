use Rattle.std.proofs.Common.{Ok, subst}
use Rattle.lk_tree.specs.Tree.{Tree}
use Rattle.lk_rulebook.specs.Place.{Place}
use Rattle.lk_questions.specs.Query.{same}
use Rattle.lk_store.specs.Contents.{Contents, tree_at}
use Rattle.lk_step.specs.Told.{IsTold}
use Rattle.lk_step.proofs.Told.{told_same}
use Rattle.lk_step.proofs.derives.are_same.Goals as goal

pub returns-clause-told : goal.returns-clause-told
returns-clause-told g c =
    let w : Place = (g.D.Looks.sight (g.D.Terms.rest c.args.derives.now)).basis.place in
    let d : Contents = g.D.Terms.contents c.answer.new.self in
    let a : Tree = tree_at (g.D.Terms.contents c.args.derives.now) c.args.a in
    let b : Tree = tree_at (g.D.Terms.contents c.args.derives.now) c.args.b in
    told_same w d a b c.in-Truth.y (subst (λ y. IsTold w d (same a b) (Ok y)) c.in-Truth.is c.in_ok-y.ensures.told)
