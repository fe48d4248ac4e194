use Rattle.leancheck.specs.Workers.{GoesOnDrawing}
use Rattle.leancheck.proofs.worker.draw.Given as goal

abbrev pub invariant-loop : goal.invariant-loop
invariant-loop l =
    GoesOnDrawing l.desk l.fn.seat l.seat l.fn.answers.items l.answers.items l.passed l.next
