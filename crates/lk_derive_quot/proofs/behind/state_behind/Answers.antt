use Rattle.std.proofs.Common.{refl, sym, ◌∙◌}
use Rattle.lk_store.specs.Contents.{Contents, tree_at}
use Rattle.lk_derive_quot.proofs.Arguments.{states_alone, states_itself, states_head}
use Rattle.lk_derive_quot.proofs.behind.state_behind.Goals as goal

pub returns-then-behind-eq0 : goal.returns-then-behind-eq0
returns-then-behind-eq0 g c =
    let d : Contents = g.T.Terms.contents c.args.terms.now in
    states_alone d c.args.row.now (tree_at d c.args.front) (tree_at d c.args.short) (tree_at d c.args.e) (tree_at d c.args.next) c.args.behind c.if-behind-eq0.true

pub returns-then-same_tree : goal.returns-then-same_tree
returns-then-same_tree g c =
    let d : Contents = g.T.Terms.contents c.args.terms.now in
    states_itself d c.args.row.now (tree_at d c.args.front) (tree_at d c.args.short) (tree_at d c.args.e) (tree_at d c.args.next) c.args.behind (sym c.same_tree.ensures ∙ c.if-same_tree.true)

pub returns : goal.returns
returns g c =
    let d : Contents = g.T.Terms.contents c.args.terms.now in
    states_head d c.args.row.now c.add_step.new.row (tree_at d c.args.front) (tree_at d c.args.short) (tree_at d c.args.e) (tree_at d c.args.next) c.args.behind c.if-behind-eq0.false (sym c.same_tree.ensures ∙ c.if-same_tree.false)
    (λ w holds. c.in_ok-add_step.ensures w _ _ _ refl refl (c.in_ok-premises.ensures.are d) holds)
