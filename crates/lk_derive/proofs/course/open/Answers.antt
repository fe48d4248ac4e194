use Rattle.std.proofs.Common.{sym, ◌∙◌}
use Rattle.std.proofs.lemmas.Result.{on_ok_weaker}
use Rattle.lk_derive.proofs.Done.{opens_known, opens_claim, opens_nothing, opens}
use Rattle.lk_derive.proofs.course.open.Goals as goal

pub returns-then-is_marked-clause-goes_on : goal.returns-then-is_marked-clause-goes_on
returns-then-is_marked-clause-goes_on g c =
    let rows = c.args.rows.now in
    opens_nothing (g.R.Rows.place rows) (g.R.Rows.most rows) (g.R.Rows.contents rows) c.args.derivation.now c.args.stack.now.items c.args.query c.requires (sym c.is_marked.ensures ∙ c.if-is_marked.true)

pub row-requires-clause-known : goal.row-requires-clause-known
row-requires-clause-known g c =
    let rows = c.args.rows.now in
    opens_known (g.R.Rows.place rows) (g.R.Rows.most rows) (g.R.Rows.contents rows) c.args.derivation.now c.args.stack.now.items c.args.query c.requires

pub row-requires-clause-answered : goal.row-requires-clause-answered
row-requires-clause-answered g c =
    let rows = c.args.rows.now in
    opens_claim (g.R.Rows.place rows) (g.R.Rows.most rows) (g.R.Rows.contents rows) c.args.derivation.now c.args.stack.now.items c.args.query c.requires

pub returns-clause-goes_on : goal.returns-clause-goes_on
returns-clause-goes_on g c =
    let rows = c.args.rows.now in
    let told = c.in_ok-row.ensures in
    on_ok_weaker c.push_row.result
    (λ is. opens (g.R.Rows.place rows) (g.R.Rows.most rows) (g.R.Rows.contents rows) (g.R.Rows.contents c.row.new.self) told.stays.keeps c.args.derivation.now c.args.stack.now.items c.args.query c.requires
    c.in_ok-row.row told.known told.row c.push_row.new.stack.items is)
    c.push_row.ensures
