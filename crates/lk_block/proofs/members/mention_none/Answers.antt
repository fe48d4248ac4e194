use Rattle.std.proofs.Common.{◌<◌, length, sym, ◌∙◌}
use Rattle.lk_lists.proofs.Lists.{rest_have}
use Rattle.lk_block.proofs.Arguments.{clear_next}
use Rattle.lk_block.proofs.members.mention_none.Goals as goal

pub trees-preserved : goal.trees-preserved
trees-preserved g c =
    let s = g.T.Terms.contents c.args.terms.now in
    record {
      rest_in = rest_have (λ x. x < length s.trees) c.trees.rest.now c.in-Some.tree.now c.in-Some.more.now c.in-Some.ensures.cases.0 c.trees.invariant.rest_in;
      met = c.in_ok-is_clear.ensures.met;
      same = c.trees.invariant.same ∙ clear_next s c.args.names.now c.trees.rest.now c.in-Some.more.now c.in-Some.tree.now c.in-Some.ensures.cases.0 (sym c.in_ok-is_clear.ensures.clear ∙ c.if-not-branch.false);
    }
