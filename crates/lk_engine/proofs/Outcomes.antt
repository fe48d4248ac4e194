-- An outcome that is known whole.
use Rattle.std.proofs.Common.{ℕ, Option, Ok, Err, Result}
use Rattle.lk_questions.specs.Erased.{Out}
use Rattle.lk_store.specs.Contents.{Contents}
use Rattle.lk_ask.specs.declared.query.Answer.{Answer}
use Rattle.lk_ask.specs.declared.stop.Stop.{Stop}
use Rattle.lk_ask.specs.Outcomes.{IsExactly, IsOutcome}

pub exactly_so : (c : Contents) (o : Out) (left : ℕ) (last : Option ℕ) (r : Result (Answer ℕ) Stop) → IsExactly c o left last r → IsOutcome c o left r
exactly_so c o left last (Ok v) h = (last, h)
exactly_so c o left last (Err stop) h = h
