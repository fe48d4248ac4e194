use Rattle.std.proofs.Common.{◌≡◌, ◌<◌, length, map, All}
use Rattle.lk_store.specs.Contents.{tree_at, Extends}
use Rattle.lk_chain.specs.Lets.{lets_over}
use Rattle.lk_chain.proofs.lets.all_lets.Given as goal

abbrev pub invariant-heads : goal.invariant-heads
invariant-heads g l =
    let contents = g.L.Terms.contents in
    let began = contents l.fn.looks in
    let now = contents l.looks in
    record {
      keeps : Extends began now;
      stays : g.L.Terms.rest l.looks ≡ g.L.Terms.rest l.fn.looks;
      left_in : All (λ x. x < length began.trees) l.left;
      made_in : l.made < length now.trees;
      same : lets_over (map (tree_at began) l.left) (tree_at now l.made)
          ≡ lets_over (map (tree_at began) l.fn.heads) (tree_at began l.fn.e);
    }

abbrev pub decreases-heads : goal.decreases-heads
decreases-heads g l = length l.left
