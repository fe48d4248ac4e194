use Rattle.std.proofs.Common.{sym, ◌∙◌}
use Rattle.lk_store.specs.Contents.{tree_at}
use Rattle.lk_nested.specs.Pairs.{pairs_at}
use Rattle.lk_nested.proofs.Swapping.{swapped_to, leaf_at, inner_at}
use Rattle.lk_nested.proofs.swap.SwappingRewrite.step.Goals as goal

pub returns-in-Some-clause-made : goal.returns-in-Some-clause-made
returns-in-Some-clause-made g c =
    let s = g.T.Terms.contents c.args.terms.now in
    record {
      known = c.in-Some.ensures.known;
      is = sym (swapped_to (pairs_at s c.args.self.now.pairs.now) (tree_at s c.args.e) (tree_at s c.in-Some.r) (sym c.in-Some.ensures.is));
    }

pub returns-then-is_leaf-clause-made : goal.returns-then-is_leaf-clause-made
returns-then-is_leaf-clause-made g c =
    let s = g.T.Terms.contents c.args.terms.now in
    record {
      known = c.requires.e_in;
      is = sym (leaf_at (pairs_at s c.args.self.now.pairs.now) s c.view.result c.args.e c.view.ensures.tree (sym c.is_leaf.ensures ∙ c.if-is_leaf.true) (sym c.in_default.ensures.is));
    }

pub returns-else-is_leaf-clause-made : goal.returns-else-is_leaf-clause-made
returns-else-is_leaf-clause-made g c =
    let s = g.T.Terms.contents c.args.terms.now in
    inner_at (pairs_at s c.args.self.now.pairs.now) s c.view.result c.args.e c.args.depth c.view.ensures.tree (sym c.is_leaf.ensures ∙ c.if-is_leaf.false) (sym c.in_default.ensures.is)
