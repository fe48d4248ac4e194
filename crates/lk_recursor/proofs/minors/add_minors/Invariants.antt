use Rattle.std.proofs.Common.{◌≡◌, ◌++◌, length, map, All}
use Rattle.lk_store.specs.Contents.{tree_at, Extends}
use Rattle.lk_inductive.specs.Recursors.{minor_type}
use Rattle.lk_block.specs.Shapes.{constructor_shape_at, type_shape_at, shape_at, IsConstructorShapeIn, AreTreesIn}
use Rattle.lk_recursor.proofs.minors.add_minors.Given as goal

abbrev pub invariant-constructors : goal.invariant-constructors
invariant-constructors g l =
    let before = g.T.Terms.contents l.fn.terms in
    let now = g.T.Terms.contents l.terms in
    let p = shape_at before l.shape in
    let t = type_shape_at before l.of in
    record {
      keeps : Extends before now;
      same_rest : g.T.Terms.rest l.terms ≡ g.T.Terms.rest l.fn.terms;
      left_in : All (IsConstructorShapeIn before) l.left;
      found_in : AreTreesIn now l.found.items;
      leads : map (tree_at now) l.found.items ++ map (minor_type p t) (map (constructor_shape_at before) l.left) ≡ map (tree_at before) l.fn.found.items ++ map (minor_type p t) t.ctors;
    }

abbrev pub decreases-constructors : goal.decreases-constructors
decreases-constructors g l = length l.left
