use Rattle.std.proofs.Common.{refl, sym, ap, ◌∙◌}
use Rattle.lk_store.specs.Contents.{Contents, tree_at}
use Rattle.lk_premises.specs.Claims.{claims_at}
use Rattle.lk_step.proofs.PartsIn.{apart}
use Rattle.lk_derive_lazy.proofs.Stating.{itself_stated}
use Rattle.lk_derive_lazy.proofs.steps.add_unfolding.Goals as goal

pub returns-then-same_tree : goal.returns-then-same_tree
returns-then-same_tree g c = λ w turned.
    let d : Contents = g.T.Terms.contents c.args.terms.now in
    itself_stated w d c.args.row.now (tree_at d c.args.e) (tree_at d c.args.next) (sym c.same_tree.ensures ∙ c.if-same_tree.true)

pub returns : goal.returns
returns g c = λ w turned.
    let d : Contents = g.T.Terms.contents c.args.terms.now in
    c.in_ok-add_step.ensures w _ _ _ refl refl (ap (claims_at d) c.no_premise.ensures) (turned.holds (apart (tree_at d c.args.e) (tree_at d c.args.next) (sym c.same_tree.ensures ∙ c.if-same_tree.false)))
