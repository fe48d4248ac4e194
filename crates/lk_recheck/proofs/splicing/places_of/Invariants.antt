use Rattle.std.proofs.Common.{take}
use Rattle.lk_store.specs.Store.{contents_of}
use Rattle.lk_recheck.specs.Places.{ArePlaces}
use Rattle.lk_recheck.proofs.splicing.places_of.Given as goal

abbrev pub invariant-loop-i : goal.invariant-loop-i
invariant-loop-i l = ArePlaces (contents_of l.base) (take l.i l.units) l.places.items
