use Rattle.std.proofs.Common.{◌≡◌, ◌<◌, length, map, All}
use Rattle.lk_store.specs.Contents.{tree_at, Extends}
use Rattle.lk_type.specs.Telescopes.{ahead}
use Rattle.lk_type.proofs.opening.all_ahead.Given as goal

abbrev pub invariant-locals : goal.invariant-locals
invariant-locals g l =
    let contents = g.L.Terms.contents in
    let began = contents l.fn.looks in
    let now = contents l.looks in
    record {
      keeps : Extends began now;
      stays : g.L.Terms.rest l.looks ≡ g.L.Terms.rest l.fn.looks;
      left_in : All (λ x. x < length began.trees) l.left;
      made_in : l.made < length now.trees;
      same : ahead (map (tree_at began) l.left) (tree_at now l.made)
          ≡ ahead (map (tree_at began) l.fn.locals) (tree_at began l.fn.e);
    }

abbrev pub decreases-locals : goal.decreases-locals
decreases-locals g l = length l.left
