-- What a worker has done, and what comes of all workers together.
use Rattle.std.specs.Prelude.{◌≡◌, ◌<◌, ◌≤◌, ◌+◌, ◌++◌, ℕ, All, true, List, [], IfSome, length, slice_index_or}
use Rattle.lk_desk.specs.Job.{job_of, units_of}
use Rattle.lk_desk.specs.declared.table.Desk.{Desk}
use Rattle.lk_desk.specs.declared.table.Seat.{Seat}
use Rattle.lk_desk.specs.Rule.{once_below}
use Rattle.lk_desk.specs.Seats.{view, job, IsNew, Sits}
use Rattle.lk_verdict.specs.declared.verdict.Verdict.{Verdict}
use Rattle.leancheck.specs.declared.order.UnitVerdict.{UnitVerdict}
use Rattle.leancheck.specs.declared.worker.Done.{Done}
use Rattle.leancheck.specs.declared.worker.WorkerSeat.{WorkerSeat}
use Rattle.leancheck.specs.declared.workers.Report.{Report}
use Rattle.leancheck.specs.Drawn.{AreRight, numbers, stands, given}
use Rattle.lk_env.specs.StoredLibrary.{StoredLibrary}

-- a seat that has drawn nothing, and came from itself alone
abbrev pub IsIdle : Seat → Desk → Type 0
IsIdle seat desk = Sits seat desk × ((view seat).drawn ≡ []) × ((view seat).seats ≡ 1)

-- it has drawn nothing, and the answers that it shares, if it does, are of the desk's job
abbrev pub IsWorkerSeat : Desk → WorkerSeat → Type 0
IsWorkerSeat desk at = IsNew at.seat desk × IfSome at.share (λ s. s.job ≡ job desk)

-- the seat drew these numbers, and each has a verdict, which is right
pub record Draws (l : StoredLibrary) (steps : ℕ) (desk : Desk) (before after : Seat)
    (answers : List UnitVerdict) : Type 0 where
  pub sits : Sits after desk
  pub seats : (view after).seats ≡ (view before).seats
  pub drawn : (view after).drawn ≡ (view before).drawn ++ numbers answers
  pub right : AreRight l steps answers

-- no number below this one is drawn by the seat any more: those that it draws are above all that it
-- drew
abbrev pub IsPassed : ℕ → Seat → Type 0
IsPassed n seat = (b : ℕ) → All (λ x. x < b) (view seat).drawn → n ≤ b

-- a seat drew more numbers, each with an answer that is right whatever the library is, and passed
-- those up to another one
pub record GoesOnDrawing (desk : Desk) (before after : Seat) (answers more : List UnitVerdict)
    (passed next : ℕ) : Type 0 where
  pub sits : Sits after desk
  pub draws : (l : StoredLibrary) (steps : ℕ) (first : Seat) → job desk ≡ job_of l
      → Draws l steps desk first before answers → Draws l steps desk first after more
  pub reached : IsPassed next after
  pub count : length answers ≤ length more
  pub far : length more + passed ≤ length answers + next
  pub most : passed ≤ units_of (job desk) → next ≤ units_of (job desk)

-- a worker's seat came from itself alone, and what it drew has a verdict each, which is right
pub record IsDone (l : StoredLibrary) (steps : ℕ) (desk : Desk)
    (done : Done) : Type 0 where
  pub sits : Sits done.seat desk
  pub alone : (view done.seat).seats ≡ 1
  pub drawn : (view done.seat).drawn ≡ numbers done.answers.items
  pub right : AreRight l steps done.answers.items

-- each unit has a verdict, by the answers, which are right; where it ended, each unit was answered
-- once
pub record IsWhole (l : StoredLibrary) (steps : ℕ) (report : Report) : Type 0 where
  pub count : length report.verdicts.items ≡ length l.units
  pub each : (n : ℕ) (d : Verdict) → n < length l.units
      → slice_index_or report.verdicts.items n d ≡ given n report.answers.items
  pub right : AreRight l steps report.answers.items
  pub once : report.ended ≡ true → (n : ℕ)
      → stands n report.answers.items ≡ once_below n (length l.units)
