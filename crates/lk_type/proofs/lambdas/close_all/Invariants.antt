use Rattle.std.proofs.Common.{◌≡◌, ◌<◌, length}
use Rattle.lk_store.specs.Contents.{tree_at, Extends}
use Rattle.lk_type.proofs.ClosedRuns.{IsClosing}
use Rattle.lk_type.proofs.lambdas.close_all.Given as goal

abbrev pub invariant-runs : goal.invariant-runs
invariant-runs g l =
    let contents = g.L.Terms.contents in
    let began = contents l.fn.looks in
    let now = contents l.looks in
    record {
      keeps : Extends began now;
      stays : g.L.Terms.rest l.looks ≡ g.L.Terms.rest l.fn.looks;
      made_in : l.made < length now.trees;
      closing : IsClosing l.fn.numbers l.left (tree_at now l.made) (tree_at began l.fn.ty);
    }

abbrev pub decreases-runs : goal.decreases-runs
decreases-runs g l = length l.left
