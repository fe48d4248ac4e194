use Rattle.std.proofs.Common.{◌+◌}
use Rattle.lk_store.specs.Store.{contents_of}
use Rattle.lk_env.specs.Index.{IsIndexUpTo}
use Rattle.lk_env.proofs.index.note_units.Given as goal

abbrev pub invariant-loop-j : goal.invariant-loop-j
invariant-loop-j l = IsIndexUpTo (contents_of l.base) l.units (l.first + l.j) l.cells.items
