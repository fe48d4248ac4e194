use Rattle.std.proofs.Common.{◌≡◌, ◌+◌, All, vec_len}
use Rattle.lk_desk.specs.Seats.{view, Sits}
use Rattle.leancheck.specs.Drawn.{AreRight, numbers}
use Rattle.leancheck.specs.Workers.{IsDone}
use Rattle.leancheck.proofs.workers.gather.Given as goal

abbrev pub invariant-loop-one : goal.invariant-loop-one
invariant-loop-one l = record {
  sits : Sits l.first l.desk;
  drawn : (view l.first).drawn ≡ numbers l.answers.items;
  seats : (view l.first).seats + vec_len l.all ≡ 1 + vec_len l.fn.all;
  right : AreRight l.library l.steps l.answers.items;
  each : All (IsDone l.library l.steps l.desk) l.all.items;
}

abbrev pub decreases-loop-one : goal.decreases-loop-one
decreases-loop-one l = vec_len l.all
