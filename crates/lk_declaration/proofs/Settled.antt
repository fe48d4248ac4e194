-- A stage of a check, and all that follow it.
use Rattle.std.proofs.Common.{ℕ, Ok, Err, Result, ap, ◌∙◌}
use Rattle.lk_questions.specs.Answer.{later}
use Rattle.lk_questions.specs.Program.{Program}
use Rattle.lk_questions.specs.Erased.{Out, seen, out_of}
use Rattle.lk_ask.specs.declared.stop.Stop.{Stop}
use Rattle.lk_ask.specs.declared.stop.Stop.TheVariants.{No, Spent, NoMemory}
use Rattle.lk_ask.specs.Asking.{Standing}
use Rattle.lk_declaration.specs.Courses.{run_then, Passes, Goes, Halts}
use Rattle.lk_declaration.specs.Checked.{IsCheckOutcome}

passed_checked : (o p : Out) (r : Result (Unit {0}) Stop) → Passes o p → IsCheckOutcome p r → IsCheckOutcome o r
passed_checked o p (Ok u) passes h = (h.0, later passes.0 h.1, passes.1 ∙ ap (seen passes.0) h.2)
passed_checked o p (Err (No r)) passes h = passes.1 ∙ ap (seen passes.0) h
passed_checked o p (Err Spent) passes h = passes.1 ∙ ap (seen passes.0) h
passed_checked o p (Err NoMemory) passes h = tt

-- the stage gives a value, and what follows says so
pub checked_on : {A Base : Type 0} (t : Standing Base) (p : Program A) (b : ℕ) (v : A) (left : ℕ) (k : A → ℕ → Out) (r : Result (Unit {0}) Stop)
    → Goes t p b v left → IsCheckOutcome (k v left) r → IsCheckOutcome (run_then (out_of t.table t.place) t.place p b k) r
checked_on t p b v left k r goes h = passed_checked _ _ r (goes.on k) h

-- the stage stops
pub checked_stop : {A Base : Type 0} (t : Standing Base) (p : Program A) (b : ℕ) (k : A → ℕ → Out) (stop : Stop)
    → Halts t p b stop → IsCheckOutcome (run_then (out_of t.table t.place) t.place p b k) (Err stop)
checked_stop t p b k stop halts = halts.stops k
