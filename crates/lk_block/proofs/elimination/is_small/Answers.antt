use Rattle.std.proofs.Common.{map, ap, ◌∙◌}
use Rattle.std.proofs.lemmas.Result.{err_from_is_err_and}
use Rattle.lk_inductive.specs.BlockSteps.{is_among}
use Rattle.lk_store.specs.Contents.{level_at, tree_at}
use Rattle.lk_subst.specs.Numbers.{trees-steady}
use Rattle.lk_block.proofs.Smallness.{small_stops, small_proof, small_index}
use Rattle.lk_block.proofs.elimination.is_small.Goals as goal

pub returns-in_err-level-clause-outcome : goal.returns-in_err-level-clause-outcome
returns-in_err-level-clause-outcome g c =
    let before = g.A.Terms.contents c.args.asks.now in
    let p = err_from_is_err_and c.from_residual.result c.from_residual.ensures.1 in
    rw (p.1, p.2) (small_stops (g.A.Asks.standing c.args.asks.now) (map (tree_at before) c.args.indices.now) (tree_at before c.args.variable) (tree_at before c.domain_of-ty.result) (g.A.Asks.left c.args.asks.now)
    c.domain_of-ty.ensures.domain c.in_err-level.field-0.0 c.in_err-level.ensures.outcome)

pub returns-then-level_is_zero-clause-outcome : goal.returns-then-level_is_zero-clause-outcome
returns-then-level_is_zero-clause-outcome g c =
    let before = g.A.Terms.contents c.args.asks.now in
    let after = g.A.Terms.contents c.sort_of.new.asks in
    small_proof (g.A.Asks.standing c.args.asks.now) (map (tree_at before) c.args.indices.now) (tree_at before c.args.variable) (tree_at before c.domain_of-ty.result) (g.A.Asks.left c.args.asks.now)
    c.domain_of-ty.ensures.domain (level_at after c.in_ok-level.level) (g.A.Asks.left c.sort_of.new.asks) c.level_is_zero.result c.in_ok-level.ensures.outcome c.level_is_zero.ensures c.if-level_is_zero.true

pub returns-else-level_is_zero-clause-outcome : goal.returns-else-level_is_zero-clause-outcome
returns-else-level_is_zero-clause-outcome g c =
    let before = g.A.Terms.contents c.args.asks.now in
    let after = g.A.Terms.contents c.sort_of.new.asks in
    let kept = c.in_ok-level.ensures.keeps in
    small_index (g.A.Asks.standing c.args.asks.now) (map (tree_at before) c.args.indices.now) (tree_at before c.args.variable) (tree_at before c.domain_of-ty.result) (g.A.Asks.left c.args.asks.now)
    c.domain_of-ty.ensures.domain (level_at after c.in_ok-level.level) (g.A.Asks.left c.sort_of.new.asks) c.level_is_zero.result c.is_among.result c.in_ok-level.ensures.outcome c.level_is_zero.ensures c.if-level_is_zero.false
    (c.is_among.ensures ∙ ap (λ x. is_among x (map (tree_at after) c.args.indices.now)) (kept.trees.same c.args.variable c.requires.variable_in) ∙ ap (is_among (tree_at before c.args.variable)) (trees-steady before after c.args.indices.now kept c.requires.indices_in))
