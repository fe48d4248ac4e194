use Rattle.std.proofs.Common.{subst, ◌∙◌}
use Rattle.lk_tree.specs.Spine.{args}
use Rattle.lk_questions.specs.Quotients.{at_mk}
use Rattle.lk_store.specs.Contents.{list_at, tree_at}
use Rattle.lk_quot.specs.Redexes.{plain_redex}
use Rattle.lk_quot.specs.Cores.{Reduces}
use Rattle.lk_quot.proofs.core_form.by_form.Goals as goal

pub returns-in-Const : goal.returns-in-Const
returns-in-Const g c =
    let t = g.L.Terms.contents c.args.looks.now in
    let p = plain_redex (tree_at t) c.args.redex.now in
    let front = tree_at t c.head-front.result in
    let is = ◌∙◌ {b = front} c.in-Const.ensures.tree c.head-front.ensures.is in
    subst (λ h. Reduces g.L.Terms.contents g.L.Terms.rest g.L.Looks.sight c.args.looks.now
    c.by_name.new.looks c.by_name.result (λ s. at_mk (tree_at t c.args.e) p.function p.rest h
    (args (tree_at t c.args.m)))) is (c.by_name.ensures (list_at t c.in-Const.field-1))
