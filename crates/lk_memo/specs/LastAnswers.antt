-- The last answers: what stands in each slot, and the era that counts.
use Rattle.std.specs.Prelude.{ℕ, List}
use Rattle.lk_memo.specs.declared.recent.Slot.{Slot}

pub record LastAnswers : Type 0 where
  pub slots : List Slot
  pub era : ℕ
