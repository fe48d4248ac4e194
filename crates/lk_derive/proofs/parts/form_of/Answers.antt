use Rattle.std.proofs.Common.{Ok, subst}
use Rattle.lk_tree.specs.Tree.{Tree}
use Rattle.lk_rulebook.specs.Place.{Place}
use Rattle.lk_questions.specs.Query.{whnf}
use Rattle.lk_store.specs.Contents.{Contents, tree_at}
use Rattle.lk_step.specs.Told.{IsTold}
use Rattle.lk_step.proofs.Told.{told_form}
use Rattle.lk_derive.proofs.parts.form_of.Goals as goal

pub returns-clause-told : goal.returns-clause-told
returns-clause-told g c =
    let w : Place = g.R.Rows.place c.args.rows.now in
    let d : Contents = g.R.Rows.contents c.answer.new.self in
    let e : Tree = tree_at (g.R.Rows.contents c.args.rows.now) c.args.e in
    told_form w d e c.in-Term.v (subst (λ a. IsTold w d (whnf e) (Ok a)) c.in-Term.is c.in_ok-v.ensures.told)
