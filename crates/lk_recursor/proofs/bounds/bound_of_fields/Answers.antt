use Rattle.std.proofs.Common.{map, ap, ◌∙◌}
use Rattle.std.specs.Prelude.{max}
use Rattle.std.proofs.lemmas.List.Elements.{All-rest}
use Rattle.lk_tree.specs.Bind.{bound}
use Rattle.lk_store.specs.Contents.{tree_at}
use Rattle.lk_inductive.specs.Recursors.{kind_bound, fields_bound}
use Rattle.lk_block.specs.Shapes.{kind_at, field_at, IsFieldIn}
use Rattle.lk_recursor.proofs.Maxima.{bound_more_twice, max_of_three}
use Rattle.lk_recursor.proofs.bounds.bound_of_fields.Goals as goal

pub fields-preserved : goal.fields-preserved
fields-preserved g c =
    let d = g.T.Terms.contents c.args.terms.now in
    let x = c.in-Some.field.now in
    let others = c.in-Some.others.now in
    let split = c.in-Some.ensures.cases.0 in
    record {
      left_in = All-rest (IsFieldIn d) x others c.fields.left.now split c.fields.invariant.left_in;
      leads =
          bound_more_twice (λ xs. fields_bound (map (field_at d) xs)) c.fields.left.now others x c.fields.most (bound (tree_at d x.variable)) (kind_bound (kind_at d x.kind)) c.larger-variable.result c.larger-most.result (fields_bound (map (field_at d) c.args.fields.now))
          split (max_of_three (bound (tree_at d x.variable)) (kind_bound (kind_at d x.kind)) (fields_bound (map (field_at d) others)))
          (c.larger-variable.ensures ∙ ap (max c.fields.most) (c.local_bound.ensures)) (c.larger-most.ensures ∙ ap (max c.larger-variable.result) (c.bound_of_kind.ensures)) c.fields.invariant.leads;
    }
