use Rattle.std.proofs.Common.{◌≡◌, ◌<◌, ◌++◌, length, map, All}
use Rattle.lk_store.specs.Contents.{tree_at, Extends}
use Rattle.lk_inductive.specs.Recursors.{motive_type}
use Rattle.lk_block.specs.Shapes.{type_shape_at, shape_at, IsTypeShapeIn}
use Rattle.lk_recursor.proofs.heads.types_of_motives.Given as goal

abbrev pub invariant-types : goal.invariant-types
invariant-types g l =
    let before = g.T.Terms.contents l.fn.terms in
    let now = g.T.Terms.contents l.terms in
    let p = shape_at before l.shape in
    record {
      keeps : Extends before now;
      same_rest : g.T.Terms.rest l.terms ≡ g.T.Terms.rest l.fn.terms;
      left_in : All (IsTypeShapeIn before) l.left;
      found_in : All (λ x. x < length now.trees) l.found.items;
      leads : map (tree_at now) l.found.items ++ map (motive_type p) (map (type_shape_at before) l.left) ≡ map (motive_type p) p.types;
    }

abbrev pub decreases-types : goal.decreases-types
decreases-types g l = length l.left
