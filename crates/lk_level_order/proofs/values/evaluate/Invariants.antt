use Rattle.std.proofs.Common.{◌≡◌, length}
use Rattle.lk_level_order.specs.Values.{AreValues, OverOrders}
use Rattle.lk_level_order.proofs.values.evaluate.Given as goal

abbrev pub invariant-loop-place : goal.invariant-loop-place
invariant-loop-place l = record {
  count : length l.values.items ≡ l.place;
  valued : OverOrders l.parts l.assignment (λ d. AreValues d l.assignment l.values.items);
}
