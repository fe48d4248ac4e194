use Rattle.std.proofs.Common.{◌≡◌, true, inl, sym, subst, ◌∙◌}
use Rattle.lk_questions.specs.Steps.{is_same_tree}
use Rattle.lk_store.specs.Contents.{Contents, tree_at}
use Rattle.lk_rulebook.specs.Claims.{reduces}
use Rattle.lk_step.proofs.PartsIn.{part_states_there}
use Rattle.lk_derive_iota.proofs.steps.state_step.Goals as goal

pub returns-then-same_tree : goal.returns-then-same_tree
returns-then-same_tree g c = λ w a b cs ea eb ecs holds.
    let d : Contents = g.T.Terms.contents c.args.terms.now in
    let one : is_same_tree (tree_at d c.args.left) (tree_at d c.args.right) ≡ true = sym c.same_tree.ensures ∙ c.if-same_tree.true in
    let two : is_same_tree a b ≡ true = subst (λ z. is_same_tree a z ≡ true) eb (subst (λ z. is_same_tree z (tree_at d c.args.right) ≡ true) ea one) in
    part_states_there w d c.args.row.now cs (reduces a b) (λ xs h. inl two)
