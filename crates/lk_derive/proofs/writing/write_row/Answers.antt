use Rattle.lk_derive.proofs.Among.{next_step_in, writing_more}
use Rattle.lk_derive.proofs.writing.write_row.Goals as goal

pub write_step-requires-clause-step_in : goal.write_step-requires-clause-step_in
write_step-requires-clause-step_in g c =
    let rows = c.args.rows.now in
    next_step_in (g.R.Rows.place rows) (g.R.Rows.contents rows) c.args.notes.now c.args.steps.now c.steps.notes c.steps.rest.now c.steps.invariant c.in-Some.step.now c.in-Some.more.now c.in-Some.ensures.cases.0

pub steps-preserved : goal.steps-preserved
steps-preserved g c =
    let rows = c.args.rows.now in
    writing_more (g.R.Rows.place rows) (g.R.Rows.contents rows) c.args.notes.now c.args.steps.now c.steps.notes c.steps.rest.now c.steps.invariant c.in-Some.step.now c.in-Some.more.now c.in-Some.ensures.cases.0
    c.write_step.new.notes c.in_ok-write_step.ensures
