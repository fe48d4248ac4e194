use Rattle.std.proofs.Common.{map, refl, ap, ◌∙◌}
use Rattle.std.specs.Prelude.{max}
use Rattle.std.proofs.lemmas.List.Elements.{All-rest}
use Rattle.lk_store.specs.Contents.{tree_at}
use Rattle.lk_inductive.specs.Recursors.{bounds, ctors_bound, types_bound}
use Rattle.lk_block.specs.Shapes.{constructor_shape_at, type_shape_at, IsTypeShapeIn}
use Rattle.lk_recursor.proofs.Maxima.{bound_more_twice}
use Rattle.lk_recursor.proofs.bounds.bound_of_types.Goals as goal

pub types-preserved : goal.types-preserved
types-preserved g c =
    let d = g.T.Terms.contents c.args.terms.now in
    let x = c.in-Some.of.now in
    let others = c.in-Some.others.now in
    let split = c.in-Some.ensures.cases.0 in
    record {
      left_in = All-rest (IsTypeShapeIn d) x others c.types.left.now split c.types.invariant.left_in;
      leads =
          bound_more_twice (λ xs. types_bound (map (type_shape_at d) xs)) c.types.left.now others x c.types.most (bounds (map (tree_at d) x.indices.items)) (ctors_bound (map (constructor_shape_at d) x.constructors.items)) c.larger-indices.result c.larger-most.result (types_bound (map (type_shape_at d) c.args.types.now))
          split refl
          (c.larger-indices.ensures ∙ ap (max c.types.most) (c.trees_bound.ensures ∙ ap (λ ys. bounds (map (tree_at d) ys)) c.deref.ensures.value)) (c.larger-most.ensures ∙ ap (max c.larger-indices.result) (c.bound_of_constructors.ensures ∙ ap (λ ys. ctors_bound (map (constructor_shape_at d) ys)) c.deref-in-Some.ensures.value)) c.types.invariant.leads;
    }
