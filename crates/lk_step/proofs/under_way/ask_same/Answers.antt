use Rattle.std.proofs.Common.{sym, ◌∙◌}
use Rattle.lk_store.specs.Contents.{Contents, tree_at}
use Rattle.lk_step.proofs.PartsIn.{asks_same_one, asks_same_more}
use Rattle.lk_step.proofs.under_way.ask_same.Goals as goal

pub returns-then-same_tree : goal.returns-then-same_tree
returns-then-same_tree g c =
    let d : Contents = g.T.Terms.contents c.args.terms.now in
    asks_same_one d c.args.row.now (tree_at d c.args.a) (tree_at d c.args.b) (sym c.same_tree.ensures ∙ c.if-same_tree.true)

pub returns : goal.returns
returns g c =
    let d : Contents = g.T.Terms.contents c.args.terms.now in
    asks_same_more d c.args.row.now c.push_question.new.row c.args.a c.args.b c.requires.a_in c.requires.b_in c.in_ok-push_question.ensures.asks c.in_ok-push_question.ensures.steps
