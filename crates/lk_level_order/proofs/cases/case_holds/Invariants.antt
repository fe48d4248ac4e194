use Rattle.std.proofs.Common.{◌≡◌, ◌≢◌, ◌<◌, ℕ, true, slice_index, slice_set}
use Rattle.lk_level_order.specs.Values.{OverOrders}
use Rattle.lk_level_order.specs.Cases.{asked_where}
use Rattle.lk_level_order.proofs.cases.case_holds.Given as goal

abbrev pub invariant-loop-p : goal.invariant-loop-p
invariant-loop-p l = record {
  keeps : l.assignment ≡ l.fn.assignment;
  far : (q : ℕ) → q < l.p → (q < l.rights → slice_index l.fn.assignment q ≢ 0) → OverOrders l.parts l.fn.assignment (λ d. asked_where d l.question (slice_set l.fn.assignment q l.far) ≡ true);
}
