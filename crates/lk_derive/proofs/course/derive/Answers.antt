use Rattle.std.proofs.Common.{◌∙◌}
use Rattle.lk_store.specs.Contents.{tree_at}
use Rattle.lk_ask.specs.Questions.{query_of}
use Rattle.lk_derive.proofs.UnderWay.{goes_on}
use Rattle.lk_derive.proofs.course.derive.Goals as goal

pub tasks-preserved : goal.tasks-preserved
tasks-preserved g c =
    let rows = c.args.rows.now in
    let done = c.in_ok-do_task.ensures in (
      goes_on g.R.Rows.contents g.R.Rows.place g.R.Rows.most rows c.args.derivation.now (query_of (tree_at (g.R.Rows.contents rows)) c.args.query)
          c.tasks.rows c.tasks.derivation c.tasks.stack.items c.tasks.invariant.0 c.pop.new.self.items c.in-Some.next c.in-Some.ensures.items
          c.do_task.new.rows c.do_task.new.derivation c.do_task.new.stack.items done.stays done.goes_on,
      c.do_task.ensures.rest ∙ c.tasks.invariant.1,
    )
