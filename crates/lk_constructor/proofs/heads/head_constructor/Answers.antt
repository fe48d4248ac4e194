use Rattle.std.proofs.Common.{subst, ◌∙◌}
use Rattle.lk_tree.specs.Spine.{args}
use Rattle.lk_store.specs.Contents.{list_at, tree_at}
use Rattle.lk_constructor.specs.Applied.{IsAppliedIf}
use Rattle.lk_constructor.specs.Looking.{app_at}
use Rattle.lk_constructor.proofs.heads.head_constructor.Goals as goal

pub returns-in-Const-clause-is : goal.returns-in-Const-clause-is
returns-in-Const-clause-is g c =
    let d = g.L.Terms.contents c.args.looks.now in
    let t = tree_at d c.args.e in
    let basis = (g.L.Looks.sight (g.L.Terms.rest c.args.looks.now)).basis in
    subst (λ h. IsAppliedIf d basis.library (args t) c.constructor_at.result (app_at basis.place h (args t)))
    (c.in-Const.ensures.tree ∙ c.head-front.ensures.is)
    (c.constructor_at.ensures.is (list_at d c.in-Const.field-1) (args t))
