use Rattle.std.proofs.Common.{ℕ, length}
use Rattle.lk_level_order.specs.Covers.{IsListed, IsJoined, Grows}
use Rattle.lk_level_order.proofs.listing.join.Given as goal

abbrev pub invariant-loop-i : goal.invariant-loop-i
invariant-loop-i l = record {
  grows : Grows l.fn.rows l.rows;
  joined : (case : ℕ) → IsListed l.fn.rows l.fn.from.first l.i case → IsJoined l.rights l.support (IsListed l.rows l.list (length l.rows)) case;
}
