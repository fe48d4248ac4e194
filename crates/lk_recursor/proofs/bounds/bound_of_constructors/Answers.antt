use Rattle.std.proofs.Common.{map, refl, ap, ◌∙◌}
use Rattle.std.specs.Prelude.{max}
use Rattle.std.proofs.lemmas.List.Elements.{All-rest}
use Rattle.lk_store.specs.Contents.{tree_at}
use Rattle.lk_inductive.specs.Recursors.{bounds, fields_bound, ctors_bound}
use Rattle.lk_block.specs.Shapes.{field_at, constructor_shape_at, IsConstructorShapeIn}
use Rattle.lk_recursor.proofs.Maxima.{bound_more_twice}
use Rattle.lk_recursor.proofs.bounds.bound_of_constructors.Goals as goal

pub constructors-preserved : goal.constructors-preserved
constructors-preserved g c =
    let d = g.T.Terms.contents c.args.terms.now in
    let x = c.in-Some.constructor.now in
    let others = c.in-Some.others.now in
    let split = c.in-Some.ensures.cases.0 in
    record {
      left_in = All-rest (IsConstructorShapeIn d) x others c.constructors.left.now split c.constructors.invariant.left_in;
      leads =
          bound_more_twice (λ xs. ctors_bound (map (constructor_shape_at d) xs)) c.constructors.left.now others x c.constructors.most (fields_bound (map (field_at d) x.fields.items)) (bounds (map (tree_at d) x.indices.items)) c.larger-fields.result c.larger-most.result (ctors_bound (map (constructor_shape_at d) c.args.constructors.now))
          split refl
          (c.larger-fields.ensures ∙ ap (max c.constructors.most) (c.bound_of_fields.ensures ∙ ap (λ ys. fields_bound (map (field_at d) ys)) c.deref.ensures.value)) (c.larger-most.ensures ∙ ap (max c.larger-fields.result) (c.trees_bound.ensures ∙ ap (λ ys. bounds (map (tree_at d) ys)) c.deref-in-Some.ensures.value)) c.constructors.invariant.leads;
    }
