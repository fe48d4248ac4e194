use Rattle.std.proofs.Common.{sym, ◌∙◌}
use Rattle.lk_store.specs.Contents.{name_at, list_at, tree_at}
use Rattle.lk_lit.proofs.TextForms.{made_app, unmade}
use Rattle.lk_lit.proofs.texts.is_made.Goals as goal

pub returns-in-Const : goal.returns-in-Const
returns-in-Const g c =
    let d = g.T.Terms.contents c.args.terms.now in
    c.is_builtin.ensures ∙ sym (made_app (tree_at d c.args.e) _ _ (name_at d c.in-Const.name)
    (list_at d c.in-Const.field-1) c.in-App.ensures.tree
    (c.in-Const.ensures.tree ∙ c.head-front.ensures.is))

pub returns-in_default : goal.returns-in_default
returns-in_default g c =
    let d = g.T.Terms.contents c.args.terms.now in
    sym (unmade d (tree_at d c.args.e) c.view.result c.in_default.not-App c.view.ensures.tree)
