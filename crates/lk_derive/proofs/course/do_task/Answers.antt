use Rattle.std.proofs.Common.{ap}
use Rattle.std.proofs.lemmas.Result.{on_ok_weaker}
use Rattle.lk_derive.specs.Stages.{task_at}
use Rattle.lk_derive.proofs.Done.{writes_row, writes}
use Rattle.lk_derive.proofs.course.do_task.Goals as goal

pub write-requires-clause-row : goal.write-requires-clause-row
write-requires-clause-row g c =
    let rows = c.args.rows.now in
    let t = g.R.Rows.contents rows in
    rw c.deref.ensures.value
    (writes_row (g.R.Rows.place rows) (g.R.Rows.most rows) t c.args.derivation.now c.args.stack.now.items c.in-Write.query c.in-Write.steps.items c.args.task (ap (task_at t) c.in-Write.is) c.requires)

pub returns-in-Write-clause-goes_on : goal.returns-in-Write-clause-goes_on
returns-in-Write-clause-goes_on g c =
    let rows = c.args.rows.now in
    let t = g.R.Rows.contents rows in
    on_ok_weaker c.write.result
    (λ d. writes (g.R.Rows.place rows) (g.R.Rows.most rows) t c.args.derivation.now c.args.stack.now.items c.in-Write.query c.in-Write.steps.items c.args.task (ap (task_at t) c.in-Write.is) c.requires
    c.write.new.derivation d)
    c.write.ensures.derives
