-- What a check says of its outcome.
use Rattle.std.specs.Prelude.{◌≡◌, ℕ, true, Option, Ok, Err, Result}
use Rattle.lk_questions.specs.Erased.{truth, Out, finished}
use Rattle.lk_ask.specs.declared.stop.Stop.{Stop}
use Rattle.lk_ask.specs.Outcomes.{IsStop}

-- yes, or why not
abbrev pub IsCheckOutcome : Out → Result (Unit {0}) Stop → Type 0
IsCheckOutcome o (Ok u) = (left : ℕ) × (last : Option ℕ) × (o ≡ finished (truth true) left last)
IsCheckOutcome o (Err stop) = IsStop o stop
