use Rattle.std.proofs.Common.{inr}
use Rattle.lk_store.specs.Store.{contents_of}
use Rattle.lk_scan.specs.Walks.{names_of}
use Rattle.lk_scan.proofs.walk.open.Goals as goal

pub returns-in_ok-open_tree-in-Tree : goal.returns-in_ok-open_tree-in-Tree
returns-in_ok-open_tree-in-Tree c = rw c.in-Tree.is (inr (c.in_ok-open_tree-in-Tree.ensures (names_of (contents_of c.args.base.now) c.args.declared.now)))

pub returns-in_ok-open_levels-in-Levels : goal.returns-in_ok-open_levels-in-Levels
returns-in_ok-open_levels-in-Levels c = rw c.in-Levels.is (inr (c.in_ok-open_levels-in-Levels.ensures (names_of (contents_of c.args.base.now) c.args.declared.now)))
