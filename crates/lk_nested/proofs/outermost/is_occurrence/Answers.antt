use Rattle.std.proofs.Common.{sym, ap, subst, ◌∙◌}
use Rattle.lk_store.specs.Contents.{tree_at}
use Rattle.lk_mentions.specs.Names.{names_at}
use Rattle.lk_nested.specs.Nestings.{function_of}
use Rattle.lk_nested.specs.Halts.{IsTested}
use Rattle.lk_nested.specs.Occurrences.{test_at}
use Rattle.lk_nested.proofs.Tests.{applied}
use Rattle.lk_nested.proofs.outermost.is_occurrence.Goals as goal

pub returns-in_ok-keep_function-in-Some-clause-test : goal.returns-in_ok-keep_function-in-Some-clause-test
returns-in_ok-keep_function-in-Some-clause-test g c =
    let s = g.A.Terms.contents c.args.asks.now in
    let at = c.in_ok-spine-in-Some.ensures.tree in
    let spine = c.in_ok-spine-in-Some.spine in
    let w = (g.A.Asks.standing c.args.asks.now).place in
    let ns = names_at s c.args.names.now in
    subst (λ x. IsTested (test_at w ns (tree_at s x)) c.is_nested_application.result) at
    (applied w ns (tree_at s spine.tree) (tree_at s c.in-Some.f) c.is_nested_application.result (ap (λ x. function_of (tree_at s x)) at ∙ sym c.in-Some.ensures.function) c.is_nested_application.ensures)
