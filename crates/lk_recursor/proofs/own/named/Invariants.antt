use Rattle.std.proofs.Common.{◌≡◌, length, map, All}
use Rattle.lk_store.specs.Contents.{name_at, tree_at}
use Rattle.lk_inductive.specs.Compare.{rec_named}
use Rattle.lk_inductive.specs.Recursors.{recs_from}
use Rattle.lk_block.specs.Shapes.{shape_at, type_shape_at, AreTreesIn, IsTypeShapeIn}
use Rattle.lk_recursor.specs.Fronts.{read_by, own_recursors}
use Rattle.lk_recursor.specs.Comparisons.{AreNames}
use Rattle.lk_recursor.proofs.own.named.Given as goal

abbrev pub invariant-types : goal.invariant-types
invariant-types g l =
    let c = g.T.Terms.contents l.terms in
    let w = read_by c l.fn.shared.shape.now l.fn.shared.front.now in
    let s = shape_at c l.fn.shared.shape.now in
    record {
      names_are : AreNames c w l.names l.types;
      types_in : All (IsTypeShapeIn c) l.types;
      minors_in : AreTreesIn c l.minors;
      same : rec_named (own_recursors c l.fn.shared.shape.now l.fn.shared.front.now) (name_at c l.fn.name) ≡ rec_named (recs_from w s (map (tree_at c) l.minors) (map (type_shape_at c) l.types)) (name_at c l.fn.name);
    }

abbrev pub decreases-types : goal.decreases-types
decreases-types g l = length l.types
