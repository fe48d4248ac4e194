use Rattle.std.proofs.Common.{◌≡◌, All}
use Rattle.std.specs.Prelude.{IfSome}
use Rattle.lk_desk.specs.Seats.{job, IsNew}
use Rattle.leancheck.specs.Workers.{IsWorkerSeat}
use Rattle.leancheck.proofs.workers.seats_for.Given as goal

abbrev pub invariant-loop : goal.invariant-loop
invariant-loop l = IsNew l.first l.desk × IfSome l.share (λ s. s.job ≡ job l.desk)
    × All (IsWorkerSeat l.desk) l.seats.items
