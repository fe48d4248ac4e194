use Rattle.std.proofs.Common.{◌≡◌, length}
use Rattle.lk_level_order.specs.Placing.{IsOrder}
use Rattle.lk_level_order.specs.Covers.{AreInRows, AreCovers, OverNames}
use Rattle.lk_level_order.proofs.listing.list_all.Given as goal

abbrev pub invariant-loop-place : goal.invariant-loop-place
invariant-loop-place l = record {
  count : length l.covers.items ≡ l.place;
  known : AreInRows l.rows l.covers.items;
  covers : OverNames l.rights l.count (λ d. IsOrder d l.parts → AreCovers d l.rights l.rows l.covers.items);
}
