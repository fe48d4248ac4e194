use Rattle.std.proofs.Common.{◌<◌, length, ◌∙◌}
use Rattle.lk_store.specs.Contents.{tree_at}
use Rattle.lk_lists.proofs.Lists.{rest_have}
use Rattle.lk_inductive.proofs.Among.{among_later}
use Rattle.lk_block.proofs.elimination.is_among.Goals as goal

pub others-preserved : goal.others-preserved
others-preserved g c =
    let s = g.T.Terms.contents c.args.terms.now in
    let other = c.in-Some.other.now in
    let more = c.in-Some.more.now in
    record {
      rest_in = rest_have (λ x. x < length s.trees) c.others.rest.now other more c.in-Some.ensures.cases.0 c.others.invariant.rest_in;
      same = c.others.invariant.same ∙ among_later (tree_at s) (tree_at s c.args.e) c.others.rest.now other more c.in-Some.ensures.cases.0 c.same.result c.same.ensures c.if-same.false;
    }
