use Rattle.std.proofs.Common.{◌<◌, length, map, refl, ap, ◌∙◌}
use Rattle.std.specs.Prelude.{max}
use Rattle.std.proofs.lemmas.List.Elements.{All-rest}
use Rattle.lk_tree.specs.Bind.{bound}
use Rattle.lk_store.specs.Contents.{tree_at}
use Rattle.lk_inductive.specs.Recursors.{bounds}
use Rattle.lk_recursor.proofs.Maxima.{bound_more}
use Rattle.lk_recursor.proofs.bounds.trees_bound.Goals as goal

pub trees-preserved : goal.trees-preserved
trees-preserved g c =
    let d = g.T.Terms.contents c.args.terms.now in
    let split = c.in-Some.ensures.cases.0 in
    record {
      left_in = All-rest (λ x. x < length d.trees) c.in-Some.tree.now c.in-Some.others.now c.trees.left.now split c.trees.invariant.left_in;
      leads = bound_more (λ xs. bounds (map (tree_at d) xs)) c.trees.left.now c.in-Some.others.now c.in-Some.tree.now c.trees.most (bound (tree_at d c.in-Some.tree.now)) c.larger-most.result (bounds (map (tree_at d) c.args.trees.now))
          split refl (c.larger-most.ensures ∙ ap (max c.trees.most) c.local_bound.ensures) c.trees.invariant.leads;
    }
