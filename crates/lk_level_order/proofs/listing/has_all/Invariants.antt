use Rattle.std.proofs.Common.{ℕ}
use Rattle.lk_level_order.specs.Covers.{IsListed, IsAmong}
use Rattle.lk_level_order.proofs.listing.has_all.Given as goal

abbrev pub invariant-loop-i : goal.invariant-loop-i
invariant-loop-i l = (case : ℕ) → IsListed l.rows l.fn.other.first l.i case → IsAmong l.rows l.cases case
