use Rattle.std.proofs.Common.{◌<◌, length, map, sym, ◌∙◌}
use Rattle.lk_store.specs.Contents.{tree_at}
use Rattle.lk_lists.proofs.Lists.{rest_have}
use Rattle.lk_nested.proofs.Only.{nest_next, nest_loose}
use Rattle.lk_nested.proofs.foreign.may_nest.Goals as goal

pub returns-then-loose_bound-ne0-clause-nest : goal.returns-then-loose_bound-ne0-clause-nest
returns-then-loose_bound-ne0-clause-nest g c =
    let s = g.T.Terms.contents c.args.terms.now in
    sym (c.trees.invariant.same ∙ nest_loose (map (tree_at s) c.args.parameters.now) (tree_at s) c.trees.rest.now c.in-Some.more.now c.in-Some.tree.now c.in-Some.ensures.cases.0 c.loose_bound.result c.loose_bound.ensures c.if-loose_bound-ne0.true)

pub trees-preserved : goal.trees-preserved
trees-preserved g c =
    let s = g.T.Terms.contents c.args.terms.now in
    record {
      rest_in = rest_have (λ x. x < length s.trees) c.trees.rest.now c.in-Some.tree.now c.in-Some.more.now c.in-Some.ensures.cases.0 c.trees.invariant.rest_in;
      met = c.in_ok-has_only.ensures.met;
      same = c.trees.invariant.same
          ∙ nest_next (map (tree_at s) c.args.parameters.now) (tree_at s) c.trees.rest.now c.in-Some.more.now c.in-Some.tree.now c.in-Some.ensures.cases.0 c.loose_bound.result c.loose_bound.ensures c.if-loose_bound-ne0.false (sym c.in_ok-has_only.ensures.only ∙ c.if-not-branch.false);
    }
