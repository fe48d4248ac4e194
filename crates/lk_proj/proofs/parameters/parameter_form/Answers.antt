use Rattle.std.proofs.Common.{ap}
use Rattle.lk_questions.specs.Erased.{a_tree, erased}
use Rattle.lk_store.specs.Contents.{tree_at}
use Rattle.lk_ask.proofs.Steps.{same_steps, after_making}
use Rattle.lk_proj.specs.Sheets.{map_applied}
use Rattle.lk_proj.specs.Infers.{parameters_rest}
use Rattle.lk_proj.proofs.ParameterPis.{parameter_put}
use Rattle.lk_proj.proofs.parameters.parameter_form.Goals as goal

pub returns-in_ok-ty-in-Pi : goal.returns-in_ok-ty-in-Pi
returns-in_ok-ty-in-Pi g c =
    let a = c.args in
    let before = g.L.Terms.contents a.looks.now in
    let made = g.L.Terms.contents c.open_with.new.terms in
    let sight = g.L.Looks.sight (g.L.Terms.rest a.looks.now) in
    let opens = c.open_with.ensures in
    same_steps (ap (erased sight.basis.place a_tree sight.last)
    (parameter_put before made opens.keeps a.applied a.argument a.form c.in-Pi.body
    c.in_ok-ty-in-Pi.ty a.prop (tree_at before c.in-Pi.field-0) c.requires.applied_in
    c.in-Pi.ensures.tree c.in_ok-ty-in-Pi.ensures.ok.is))
    (after_making (λ s. erased s.basis.place a_tree s.last (parameters_rest
    (map_applied (tree_at made) a.applied) a.prop (tree_at made c.in_ok-ty-in-Pi.ty)))
    opens.keeps opens.rest c.put_parameters.ensures)
