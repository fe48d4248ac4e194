use Rattle.std.proofs.Common.{length}
use Rattle.lk_store.specs.Store.{contents_of}
use Rattle.lk_env.specs.Units.{library_at}
use Rattle.lk_recheck.proofs.Places.{AreLeft}
use Rattle.lk_recheck.proofs.splicing.splice.Given as goal

abbrev pub invariant-loop-unit : goal.invariant-loop-unit
invariant-loop-unit l = AreLeft (contents_of l.base) (library_at (contents_of l.base) l.list) l.fn.part.items l.part.items l.units.items l.places.items

abbrev pub decreases-loop-unit : goal.decreases-loop-unit
decreases-loop-unit l = length l.part.items
