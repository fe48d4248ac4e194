use Rattle.std.proofs.Common.{sym, ap, subst, ◌∙◌}
use Rattle.lk_store.specs.Contents.{tree_at}
use Rattle.lk_mentions.specs.Names.{names_at}
use Rattle.lk_nested.specs.Nestings.{function_of, IsTreeTest}
use Rattle.lk_nested.proofs.Applied.{test_unapplied, test_applied}
use Rattle.lk_nested.proofs.nested.is_nested.Goals as goal

pub returns-in-None-clause-test : goal.returns-in-None-clause-test
returns-in-None-clause-test g c =
    let s = g.A.Terms.contents c.args.asks.now in
    test_unapplied (g.A.Asks.standing c.args.asks.now).place (names_at s c.args.names.now) (tree_at s c.args.e) (sym c.in-None.ensures.function)

pub returns-in_ok-keep_function-in-Some-clause-test : goal.returns-in_ok-keep_function-in-Some-clause-test
returns-in_ok-keep_function-in-Some-clause-test g c =
    let s = g.A.Terms.contents c.args.asks.now in
    let at = c.in_ok-spine-in-Some.ensures.tree in
    let spine = c.in_ok-spine-in-Some.spine in
    let w = (g.A.Asks.standing c.args.asks.now).place in
    let ns = names_at s c.args.names.now in
    subst (λ x. IsTreeTest w ns (tree_at s x) c.is_nested_application.result) at
    (test_applied w ns (tree_at s spine.tree) (tree_at s c.in-Some.f) c.is_nested_application.result (ap (λ x. function_of (tree_at s x)) at ∙ sym c.in-Some.ensures.function) c.is_nested_application.ensures)
