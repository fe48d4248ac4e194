use Rattle.std.proofs.Common.{◌≡◌, length, map, All}
use Rattle.std.specs.Prelude.{max}
use Rattle.lk_inductive.specs.Recursors.{fields_bound}
use Rattle.lk_block.specs.Shapes.{field_at, IsFieldIn}
use Rattle.lk_recursor.proofs.bounds.bound_of_fields.Given as goal

abbrev pub invariant-fields : goal.invariant-fields
invariant-fields g l =
    let c = g.T.Terms.contents l.terms in
    record {
      left_in : All (IsFieldIn c) l.left;
      leads : max l.most (fields_bound (map (field_at c) l.left)) ≡ fields_bound (map (field_at c) l.fn.fields);
    }

abbrev pub decreases-fields : goal.decreases-fields
decreases-fields g l = length l.left
