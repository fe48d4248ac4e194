use Rattle.lk_store.specs.Store.{contents_of}
use Rattle.lk_env.specs.Index.{IsIndexUpTo}
use Rattle.lk_env.proofs.index.index_of.Given as goal

abbrev pub invariant-loop-i : goal.invariant-loop-i
invariant-loop-i l = IsIndexUpTo (contents_of l.base) l.units l.i l.cells.items
