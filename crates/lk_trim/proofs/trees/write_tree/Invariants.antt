use Rattle.std.proofs.Common.{◌≡◌}
use Rattle.lk_store.specs.Contents.{tree_at}
use Rattle.lk_trim.specs.Trees.{write_tree}
use Rattle.lk_trim.specs.Stored.{file_at, AreNumbersIn}
use Rattle.lk_trim.specs.Walks.{tree_walk, rest_of, AreVisits, turns}
use Rattle.lk_trim.proofs.trees.write_tree.Given as goal

abbrev pub invariant-walk : goal.invariant-walk
invariant-walk g l =
    let c = g.T.Terms.contents l.store in
    record {
      numbers : AreNumbersIn c l.writer.numbers;
      known : AreVisits (tree_walk c) l.stack.items;
      leads : rest_of (tree_walk c) l.stack.items (file_at c l.writer) ≡ write_tree (tree_at c l.tree) (file_at c l.fn.writer);
    }

abbrev pub decreases-walk : goal.decreases-walk
decreases-walk g l = turns (tree_walk (g.T.Terms.contents l.store)) l.stack.items
