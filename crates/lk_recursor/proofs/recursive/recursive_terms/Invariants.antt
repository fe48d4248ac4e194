use Rattle.std.proofs.Common.{◌≡◌, ◌++◌, length, map, All}
use Rattle.lk_store.specs.Contents.{tree_at, Extends}
use Rattle.lk_block.specs.Shapes.{field_at, shape_at, IsFieldIn, AreTreesIn}
use Rattle.lk_recursor.specs.Recursive.{terms_of}
use Rattle.lk_recursor.proofs.recursive.recursive_terms.Given as goal

abbrev pub invariant-fields : goal.invariant-fields
invariant-fields g l =
    let before = g.T.Terms.contents l.fn.terms in
    let now = g.T.Terms.contents l.terms in
    let p = shape_at before l.shape in
    record {
      keeps : Extends before now;
      same_rest : g.T.Terms.rest l.terms ≡ g.T.Terms.rest l.fn.terms;
      left_in : All (IsFieldIn before) l.left;
      found_in : AreTreesIn now l.found.items;
      leads : map (tree_at now) l.found.items ++ terms_of l.heading p (map (field_at before) l.left) ≡ terms_of l.heading p (map (field_at before) l.fn.fields);
    }

abbrev pub decreases-fields : goal.decreases-fields
decreases-fields g l = length l.left
