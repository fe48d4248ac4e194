use Rattle.std.proofs.Common.{ap, ◌∙◌}
use Rattle.lk_store.specs.Contents.{tree_at}
use Rattle.lk_lists.proofs.Lists.{rest_have}
use Rattle.lk_nested.specs.Pairs.{pair_at, pairs_at, IsPairIn}
use Rattle.lk_nested.specs.Swaps.{instead}
use Rattle.lk_nested.proofs.Swapping.{instead_next}
use Rattle.lk_nested.proofs.swap.instead.Goals as goal

pub pairs-preserved : goal.pairs-preserved
pairs-preserved g c =
    let s = g.T.Terms.contents c.args.terms.now in
    let t = tree_at s c.args.e in
    let pair = c.in-Some.pair.now in
    let more = c.in-Some.more.now in
    let split = c.in-Some.ensures.cases.0 in
    record {
      rest_in = rest_have (IsPairIn s) c.pairs.rest.now pair more split c.pairs.invariant.rest_in;
      same = c.pairs.invariant.same ∙ ap (λ x. instead (pairs_at s x) t) split ∙ instead_next (pair_at s pair) (pairs_at s more) t c.same.result c.same.ensures c.if-same.false;
    }
