use Rattle.std.proofs.Common.{arith}
use Rattle.lk_store.specs.Contents.{tree_at}
use Rattle.lk_ask.specs.declared.query.Query.TheVariants.{Whnf}
use Rattle.lk_ask.specs.Questions.{query_of}
use Rattle.lk_derive.proofs.PartsAdded.{within, due_stays, form_claimed, form_added}
use Rattle.lk_derive.proofs.parts.add_form.Goals as goal

pub form_of-requires-clause-answered : goal.form_of-requires-clause-answered
form_of-requires-clause-answered g c =
    let rows = c.args.rows.now in
    within (g.R.Rows.place rows) (query_of (tree_at (g.R.Rows.contents rows)) (Whnf c.args.e)) (g.R.Rows.most rows) c.requires.answered

pub add-requires-clause-due : goal.add-requires-clause-due
add-requires-clause-due g c =
    due_stays g.R.Rows.contents g.R.Rows.place g.R.Rows.most c.args.rows.now c.form_of.new.rows c.form_of.ensures.stays c.args.parts.now (Whnf c.args.e) c.requires

pub add-requires-clause-claim_in : goal.add-requires-clause-claim_in
add-requires-clause-claim_in g c =
    let less = c.requires.known in
    let longer = c.form_of.ensures.stays.keeps.trees.longer in
    rw c.reduction.ensures (record { left_in = omega (arith, less, longer); right_in = c.in_ok-form.ensures.known })

pub add-requires-clause-claim_is : goal.add-requires-clause-claim_is
add-requires-clause-claim_is g c =
    let rows = c.args.rows.now in
    let stays = c.form_of.ensures.stays in
    rw c.reduction.ensures (form_claimed (g.R.Rows.place rows) (g.R.Rows.place c.form_of.new.rows) (g.R.Rows.contents rows) (g.R.Rows.contents c.form_of.new.rows) stays.keeps stays.place_stays c.args.e c.in_ok-form.form c.requires.known c.in_ok-form.ensures.told)

pub returns-clause-adds : goal.returns-clause-adds
returns-clause-adds g c = λ V n a.
    let rows = c.args.rows.now in
    let stays = c.form_of.ensures.stays in
    let adds = rw c.reduction.ensures at c.in_ok-add.ensures.adds in
    form_added (g.R.Rows.place rows) (g.R.Rows.place c.form_of.new.rows) (g.R.Rows.contents rows) (g.R.Rows.contents c.form_of.new.rows) stays.keeps stays.place_stays c.args.e c.in_ok-form.form c.requires.known
    (g.R.Rows.contents c.add.new.rows) c.add.ensures.stays.keeps c.in_ok-form.ensures.known c.args.parts.now c.add.new.parts c.requires.parts_are V n c.in_ok-form.ensures.told a adds
