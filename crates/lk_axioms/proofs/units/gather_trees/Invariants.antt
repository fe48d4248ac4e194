use Rattle.std.proofs.Common.{take}
use Rattle.lk_store.specs.Store.{contents_of}
use Rattle.lk_env.specs.Units.{library_of}
use Rattle.lk_axioms.specs.Gathered.{AreGathered}
use Rattle.lk_axioms.proofs.units.gather_trees.Given as goal

abbrev pub invariant-loop-tree : goal.invariant-loop-tree
invariant-loop-tree l = AreGathered (contents_of l.library.tables) (library_of l.library) l.unit (take l.tree-index l.trees) l.initial.gathering l.gathering l.used
