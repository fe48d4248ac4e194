use Rattle.lk_recheck.specs.Built.{stored_at, IsBuiltTo}
use Rattle.lk_recheck.proofs.building.sources_of.Given as goal

abbrev pub invariant-loop-slot : goal.invariant-loop-slot
invariant-loop-slot l = IsBuiltTo (stored_at l.base l.units) l.slot l.sources
