use Rattle.std.proofs.Common.{arith}
use Rattle.lk_store.specs.Contents.{tree_at}
use Rattle.lk_ask.specs.declared.query.Query.TheVariants.{Infer}
use Rattle.lk_ask.specs.Questions.{query_of}
use Rattle.lk_derive.proofs.PartsAdded.{within, due_stays, type_claimed, type_added}
use Rattle.lk_derive.proofs.parts.add_type.Goals as goal

pub type_of-requires-clause-answered : goal.type_of-requires-clause-answered
type_of-requires-clause-answered g c =
    let rows = c.args.rows.now in
    within (g.R.Rows.place rows) (query_of (tree_at (g.R.Rows.contents rows)) (Infer c.args.e)) (g.R.Rows.most rows) c.requires.answered

pub add-requires-clause-due : goal.add-requires-clause-due
add-requires-clause-due g c =
    due_stays g.R.Rows.contents g.R.Rows.place g.R.Rows.most c.args.rows.now c.type_of.new.rows c.type_of.ensures.stays c.args.parts.now (Infer c.args.e) c.requires

pub add-requires-clause-claim_in : goal.add-requires-clause-claim_in
add-requires-clause-claim_in g c =
    let less = c.requires.known in
    let longer = c.type_of.ensures.stays.keeps.trees.longer in
    rw c.typing.ensures (record { left_in = omega (arith, less, longer); right_in = c.in_ok-ty.ensures.known })

pub add-requires-clause-claim_is : goal.add-requires-clause-claim_is
add-requires-clause-claim_is g c =
    let rows = c.args.rows.now in
    let stays = c.type_of.ensures.stays in
    rw c.typing.ensures (type_claimed (g.R.Rows.place rows) (g.R.Rows.place c.type_of.new.rows) (g.R.Rows.contents rows) (g.R.Rows.contents c.type_of.new.rows) stays.keeps stays.place_stays c.args.e c.in_ok-ty.ty c.requires.known c.in_ok-ty.ensures.told)

pub returns-clause-adds : goal.returns-clause-adds
returns-clause-adds g c = λ V n a.
    let rows = c.args.rows.now in
    let stays = c.type_of.ensures.stays in
    let adds = rw c.typing.ensures at c.in_ok-add.ensures.adds in
    type_added (g.R.Rows.place rows) (g.R.Rows.place c.type_of.new.rows) (g.R.Rows.contents rows) (g.R.Rows.contents c.type_of.new.rows) stays.keeps stays.place_stays c.args.e c.in_ok-ty.ty c.requires.known
    (g.R.Rows.contents c.add.new.rows) c.add.ensures.stays.keeps c.in_ok-ty.ensures.known c.args.parts.now c.add.new.parts c.requires.parts_are V n c.in_ok-ty.ensures.told a adds
