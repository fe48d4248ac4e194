use Rattle.std.proofs.Common.{[]}
use Rattle.lk_recheck.specs.Built.{stored_at, IsBuiltTo}
use Rattle.lk_recheck.proofs.building.store_links.Given as goal

abbrev pub invariant-loop-slot : goal.invariant-loop-slot
invariant-loop-slot l = IsBuiltTo (stored_at l.base []) l.slot l.sources
