use Rattle.std.proofs.Common.{subst, ◌∙◌}
use Rattle.lk_store.specs.Contents.{list_at}
use Rattle.lk_constructor.specs.Looking.{LooksUpHead}
use Rattle.lk_constructor.proofs.constructor.look_head.Goals as goal

pub returns-in-Const-clause-finds : goal.returns-in-Const-clause-finds
returns-in-Const-clause-finds g c xs =
    let ks = list_at (g.L.Terms.contents c.args.looks.now) c.in-Const.field-1 in
    subst (λ h. LooksUpHead g.L.Terms.contents g.L.Terms.rest g.L.Looks.sight c.args.looks.now
    c.look_constructor.new.looks c.look_constructor.result h xs)
    (c.in-Const.ensures.tree ∙ c.head-front.ensures.is) (c.look_constructor.ensures.finds ks xs)
