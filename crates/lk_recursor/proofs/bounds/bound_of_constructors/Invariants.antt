use Rattle.std.proofs.Common.{◌≡◌, length, map, All}
use Rattle.std.specs.Prelude.{max}
use Rattle.lk_inductive.specs.Recursors.{ctors_bound}
use Rattle.lk_block.specs.Shapes.{constructor_shape_at, IsConstructorShapeIn}
use Rattle.lk_recursor.proofs.bounds.bound_of_constructors.Given as goal

abbrev pub invariant-constructors : goal.invariant-constructors
invariant-constructors g l =
    let c = g.T.Terms.contents l.terms in
    record {
      left_in : All (IsConstructorShapeIn c) l.left;
      leads : max l.most (ctors_bound (map (constructor_shape_at c) l.left)) ≡ ctors_bound (map (constructor_shape_at c) l.fn.constructors);
    }

abbrev pub decreases-constructors : goal.decreases-constructors
decreases-constructors g l = length l.left
