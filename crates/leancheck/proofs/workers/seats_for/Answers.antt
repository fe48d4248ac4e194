use Rattle.std.proofs.Common.{◌∙◌}
use Rattle.std.proofs.lemmas.List.Elements.{All-push}
use Rattle.lk_desk.specs.Seats.{job}
use Rattle.leancheck.specs.declared.worker.WorkerSeat.{WorkerSeat}
use Rattle.leancheck.specs.Workers.{IsWorkerSeat}
use Rattle.leancheck.proofs.workers.seats_for.Goals as goal

pub loop-preserved : goal.loop-preserved
loop-preserved c =
    let i = c.loop.invariant in
    let of = c.in-Some.ensures.of in
    let some = c.in-Some.ensures.some in
    let share = c.share_of-share.ensures (job c.args.desk.now) i.1 in
    let one : WorkerSeat = record { seat = c.in-Some.seat; share = c.share_of-share.result } in (
      ((of.0.0, of.0.1, of.1 ∙ i.0.0.2), some.1 ∙ i.0.1),
      share.0,
      rw c.in_ok-push.ensures.items
          (All-push (IsWorkerSeat c.args.desk.now) c.loop.seats.items one i.2 (some.0, share.1)),
    )
