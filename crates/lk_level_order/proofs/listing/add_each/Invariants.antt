use Rattle.std.proofs.Common.{◌≡◌, ◌<◌, ℕ, true, length}
use Rattle.lk_level_order.specs.Digits.{has_one, with_one}
use Rattle.lk_level_order.specs.Covers.{IsListed, Grows}
use Rattle.lk_level_order.proofs.listing.add_each.Given as goal

abbrev pub invariant-loop-n : goal.invariant-loop-n
invariant-loop-n l = record {
  grows : Grows l.fn.rows l.rows;
  listed : (n : ℕ) → n < l.n → has_one l.support.by n ≡ true → IsListed l.rows l.list (length l.rows) (with_one l.case n);
}
