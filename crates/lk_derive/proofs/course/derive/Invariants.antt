use Rattle.std.specs.Prelude.{◌≡◌}
use Rattle.lk_store.specs.Contents.{tree_at}
use Rattle.lk_ask.specs.Questions.{query_of}
use Rattle.lk_derive.specs.Tasks.{weight}
use Rattle.lk_derive.specs.Stages.{tasks_at}
use Rattle.lk_derive.proofs.UnderWay.{IsUnderWay}
use Rattle.lk_derive.proofs.course.derive.Given as goal

abbrev pub invariant-tasks : goal.invariant-tasks
invariant-tasks g l =
    IsUnderWay g.R.Rows.contents g.R.Rows.place g.R.Rows.most l.fn.rows l.rows l.fn.derivation l.derivation
    (query_of (tree_at (g.R.Rows.contents l.fn.rows)) l.fn.query) l.stack.items
    × (g.R.Rows.rest l.rows ≡ g.R.Rows.rest l.fn.rows)

abbrev pub decreases-tasks : goal.decreases-tasks
decreases-tasks g l = weight (g.R.Rows.place l.fn.rows) (g.R.Rows.most l.fn.rows) (tasks_at (g.R.Rows.contents l.rows) l.stack.items)
