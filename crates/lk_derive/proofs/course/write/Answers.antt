use Rattle.std.proofs.Common.{map}
use Rattle.std.proofs.lemmas.Result.{on_ok_weaker}
use Rattle.lk_store.specs.Contents.{tree_at}
use Rattle.lk_ask.specs.Questions.{query_of}
use Rattle.lk_step.specs.Meaning.{step_at}
use Rattle.lk_derive.specs.Notes.{stated_at}
use Rattle.lk_derive.proofs.Waiting.{due_steps, due_derived}
use Rattle.lk_derive.proofs.Marked.{marked}
use Rattle.lk_derive.proofs.course.write.Goals as goal

pub write_row-requires-clause-steps : goal.write_row-requires-clause-steps
write_row-requires-clause-steps g c =
    let rows = c.args.rows.now in
    let t = g.R.Rows.contents rows in
    due_steps (g.R.Rows.place rows) (g.R.Rows.most rows) (stated_at t c.args.derivation.now.notes) (query_of (tree_at t) c.args.query) (map (step_at t) c.args.steps.now) c.requires.row

pub returns-clause-derives : goal.returns-clause-derives
returns-clause-derives g c =
    let rows = c.args.rows.now in
    let w = g.R.Rows.place rows in
    let t = g.R.Rows.contents rows in
    let old = c.args.derivation.now in
    let now = c.write_row.new.notes in
    let written = c.in_ok-write_row.ensures in
    let derived = due_derived w (g.R.Rows.most rows) (stated_at t old.notes) (query_of (tree_at t) c.args.query) (map (step_at t) c.args.steps.now) c.requires.row (stated_at t now) written.among in
    on_ok_weaker c.mark.result
    (λ marks. marked w t old c.mark.new.self now c.args.query c.requires.derivation written.notes written.keeps marks c.requires.known derived)
    c.mark.ensures
