use Rattle.std.proofs.Common.{◌≡◌, Some, None, length, sym, subst, ◌∙◌}
use Rattle.lk_tree.specs.Spine.{args}
use Rattle.lk_store.specs.Contents.{name_at, tree_at}
use Rattle.lk_env.specs.Lent.{HasParameters}
use Rattle.lk_nested.proofs.Applied.{test_exact, test_counted, test_missing}
use Rattle.lk_nested.proofs.nested.is_nested_type.Goals as goal

pub returns-in-Ok-None : goal.returns-in-Ok-None
returns-in-Ok-None g c = λ ns named other mentioning.
    let s = g.A.Terms.contents c.args.asks.now in
    let w = (g.A.Asks.standing c.args.asks.now).place in
    let J = name_at s c.args.name in
    test_counted w ns (tree_at s c.args.spine.tree) J named other mentioning None (subst (HasParameters w J) c.in-Ok-None.field-0-is c.in-Ok-None.ensures.found) (λ e. absurd cc)

pub returns-then-parameters-spine : goal.returns-then-parameters-spine
returns-then-parameters-spine g c = λ ns named other mentioning.
    let s = g.A.Terms.contents c.args.asks.now in
    let w = (g.A.Asks.standing c.args.asks.now).place in
    let J = name_at s c.args.name in
    let t = tree_at s c.args.spine.tree in
    test_counted w ns t J named other mentioning (Some c.in-Ok-Some.parameters) (subst (HasParameters w J) c.in-Ok-Some.field-0-is c.in-Ok-Some.ensures.found)
    (λ e. c.if-parameters-spine.true (let same : length (args t) ≡ c.in-Ok-Some.parameters = cc in sym same ∙ sym c.requires.spine.count_is))

pub returns-else-parameters-spine : goal.returns-else-parameters-spine
returns-else-parameters-spine g c = λ ns named other mentioning.
    let s = g.A.Terms.contents c.args.asks.now in
    let w = (g.A.Asks.standing c.args.asks.now).place in
    let J = name_at s c.args.name in
    test_exact w ns (tree_at s c.args.spine.tree) J named other mentioning c.in-Ok-Some.parameters (subst (HasParameters w J) c.in-Ok-Some.field-0-is c.in-Ok-Some.ensures.found)
    (sym (c.if-parameters-spine.false ∙ c.requires.spine.count_is))

pub returns-in-Err : goal.returns-in-Err
returns-in-Err g c = λ ns named other mentioning.
    let s = g.A.Terms.contents c.args.asks.now in
    test_missing (g.A.Asks.standing c.args.asks.now).place ns (tree_at s c.args.spine.tree) (name_at s c.args.name) named other mentioning c.in-Err.rule c.in-Err.ensures.refused
