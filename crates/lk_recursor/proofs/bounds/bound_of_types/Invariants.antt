use Rattle.std.proofs.Common.{◌≡◌, length, map, All}
use Rattle.std.specs.Prelude.{max}
use Rattle.lk_inductive.specs.Recursors.{types_bound}
use Rattle.lk_block.specs.Shapes.{type_shape_at, IsTypeShapeIn}
use Rattle.lk_recursor.proofs.bounds.bound_of_types.Given as goal

abbrev pub invariant-types : goal.invariant-types
invariant-types g l =
    let c = g.T.Terms.contents l.terms in
    record {
      left_in : All (IsTypeShapeIn c) l.left;
      leads : max l.most (types_bound (map (type_shape_at c) l.left)) ≡ types_bound (map (type_shape_at c) l.fn.types);
    }

abbrev pub decreases-types : goal.decreases-types
decreases-types g l = length l.left
