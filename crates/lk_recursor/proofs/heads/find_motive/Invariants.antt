use Rattle.std.proofs.Common.{◌≡◌, ◌<◌, length, map, All}
use Rattle.lk_store.specs.Contents.{name_at, tree_at}
use Rattle.lk_inductive.specs.Recursors.{motive_in}
use Rattle.lk_block.specs.Shapes.{type_shape_at, IsTypeShapeIn}
use Rattle.lk_recursor.proofs.heads.find_motive.Given as goal

abbrev pub invariant-types : goal.invariant-types
invariant-types g l =
    let c = g.T.Terms.contents l.terms in
    record {
      types_in : All (IsTypeShapeIn c) l.types_left;
      motives_in : All (λ x. x < length c.trees) l.motives_left;
      same : motive_in (map (type_shape_at c) l.types_left) (map (tree_at c) l.motives_left) (name_at c l.name) ≡ motive_in (map (type_shape_at c) l.fn.types) (map (tree_at c) l.fn.motives) (name_at c l.name);
    }

abbrev pub decreases-types : goal.decreases-types
decreases-types g l = length l.types_left
