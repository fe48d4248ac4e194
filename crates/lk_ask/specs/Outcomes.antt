-- What whoever answers a question says.
use Rattle.std.specs.Prelude.{◌≡◌, ℕ, Option, Ok, Err, Result}
use Rattle.lk_store.specs.Contents.{Contents, tree_at}
use Rattle.lk_questions.specs.Erased.{Out, finished, stopped, used_up}
use Rattle.lk_ask.specs.declared.query.Answer.{Answer}
use Rattle.lk_ask.specs.declared.stop.Stop.{Stop}
use Rattle.lk_ask.specs.declared.stop.Stop.TheVariants.{No, Spent, NoMemory}
use Rattle.lk_ask.specs.Questions.{value_at}

-- why there is no answer
abbrev pub IsStop : Out → Stop → Type 0
IsStop o (No r) = o ≡ stopped r
IsStop o Spent = o ≡ used_up
IsStop o NoMemory = Unit {0}

-- the outcome is this one, over these contents, so much is left, and this is the last unit that was looked at
abbrev pub IsExactly : Contents → Out → ℕ → Option ℕ → Result (Answer ℕ) Stop → Type 0
IsExactly c o left last (Ok v) = o ≡ finished (value_at (tree_at c) v) left last
IsExactly c o left last (Err stop) = IsStop o stop

-- the same, whichever unit was looked at last
abbrev pub IsOutcome : Contents → Out → ℕ → Result (Answer ℕ) Stop → Type 0
IsOutcome c o left (Ok v) = (last : Option ℕ) × (o ≡ finished (value_at (tree_at c) v) left last)
IsOutcome c o left (Err stop) = IsStop o stop
