use Rattle.std.proofs.Common.{◌<◌, length, sym, ◌∙◌}
use Rattle.lk_store.specs.Contents.{tree_at}
use Rattle.lk_lists.proofs.Lists.{rest_have}
use Rattle.lk_inductive.proofs.Among.{tree_decides}
use Rattle.lk_block.proofs.Arguments.{params_next}
use Rattle.lk_block.proofs.members.after_parameters.Goals as goal

pub parameters-preserved : goal.parameters-preserved
parameters-preserved g c =
    let s = g.T.Terms.contents c.args.terms.now in
    record {
      left_in = rest_have (λ x. x < length s.trees) c.parameters.left.now c.in-Some.parameter.now c.in-Some.left_rest.now c.in-Some.ensures.cases.0 c.parameters.invariant.left_in;
      right_in = rest_have (λ x. x < length s.trees) c.parameters.right.now c.in-Some-split_first.argument.now c.in-Some-split_first.right_rest.now c.in-Some-split_first.ensures.cases.0 c.parameters.invariant.right_in;
      same = c.parameters.invariant.same ∙ params_next (tree_at s) c.parameters.left.now c.parameters.right.now c.in-Some.left_rest.now c.in-Some-split_first.right_rest.now c.in-Some.parameter.now c.in-Some-split_first.argument.now
          c.in-Some.ensures.cases.0 c.in-Some-split_first.ensures.cases.0
          (sym (tree_decides c.same.result (tree_at s c.in-Some.parameter.now) (tree_at s c.in-Some-split_first.argument.now) c.same.ensures) ∙ c.if-not-same.false);
    }
