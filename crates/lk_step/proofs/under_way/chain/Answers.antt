use Rattle.std.proofs.Common.{refl, sym, ◌∙◌}
use Rattle.lk_store.specs.Contents.{Contents, tree_at}
use Rattle.lk_step.proofs.PartsIn.{chains_linked, chains_stated}
use Rattle.lk_step.proofs.under_way.chain.Goals as goal

pub returns-then-are_linked : goal.returns-then-are_linked
returns-then-are_linked g c =
    let d : Contents = g.T.Terms.contents c.args.terms.now in
    chains_linked d c.args.row.now (tree_at d c.args.a) (tree_at d c.args.b) (tree_at d c.args.c) (sym c.are_linked.ensures ∙ c.if-are_linked.true)

pub returns : goal.returns
returns g c =
    let d : Contents = g.T.Terms.contents c.args.terms.now in
    chains_stated d c.args.row.now c.add_step.new.row (tree_at d c.args.a) (tree_at d c.args.b) (tree_at d c.args.c) (sym c.are_linked.ensures ∙ c.if-are_linked.false)
    (λ w holds. c.in_ok-add_step.ensures w _ _ _ refl refl (c.in_ok-premises.ensures.are d) holds)
