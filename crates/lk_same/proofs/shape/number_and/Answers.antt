use Rattle.std.proofs.Common.{◌∙◌, ap}
use Rattle.lk_questions.specs.Erased.{truth, erased}
use Rattle.lk_store.specs.Contents.{tree_at}
use Rattle.lk_ask.proofs.Steps.{gives_now}
use Rattle.lk_same.proofs.Shapes.{number_and_other}
use Rattle.lk_same.proofs.shape.number_and.Goals as goal

pub returns-in_default : goal.returns-in_default
returns-in_default g c =
    let d = g.L.Terms.contents c.args.looks.now in
    let t = tree_at d in
    let unlike = number_and_other d c.args.number c.view.result (t c.args.a) (t c.args.b)
    c.in_default.not-Lit c.requires.a_is c.view.ensures.tree in
    gives_now _ _ _ (c.reduced.ensures.known _ c.requires.a_in c.requires.b_in)
    (c.reduced.ensures.steps _ _ _ ∙ ap (erased _ truth _) unlike)
