use Rattle.std.proofs.Common.{◌<◌, length, sym, ◌∙◌}
use Rattle.lk_store.specs.Contents.{name_at}
use Rattle.lk_lists.proofs.Lists.{rest_have}
use Rattle.lk_block.proofs.Agreed.{names_next}
use Rattle.lk_block.proofs.counts.names_agree.Goals as goal

pub names-preserved : goal.names-preserved
names-preserved g c =
    let s = g.T.Terms.contents c.args.terms.now in
    record {
      left_in = rest_have (λ n. n < length s.names) c.names.left.now c.in-Some.m.now c.in-Some.left_rest.now c.in-Some.ensures.cases.0 c.names.invariant.left_in;
      right_in = rest_have (λ n. n < length s.names) c.names.right.now c.in-Some-split_first.n.now c.in-Some-split_first.right_rest.now c.in-Some-split_first.ensures.cases.0 c.names.invariant.right_in;
      same = c.names.invariant.same ∙ names_next (name_at s) c.names.left.now c.names.right.now c.in-Some.left_rest.now c.in-Some-split_first.right_rest.now c.in-Some.m.now c.in-Some-split_first.n.now
          c.in-Some.ensures.cases.0 c.in-Some-split_first.ensures.cases.0 (sym c.names_equal.ensures ∙ c.if-not-names_equal.false);
    }
