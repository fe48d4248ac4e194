use Rattle.std.proofs.Common.{◌∙◌}
use Rattle.lk_derive.proofs.SidesAdded.{side_due, sides_more, sides_done}
use Rattle.lk_derive.proofs.unit.add_sides.Goals as goal

pub add_equal-requires : goal.add_equal-requires
add_equal-requires g c =
    side_due g.R.Rows.contents g.R.Rows.place g.R.Rows.most c.args.rows.now c.sides.rows c.args.parts.now c.sides.parts c.args.sides.now c.sides.rest.now c.sides.invariant.0 c.in-Some.side.now c.in-Some.more.now c.in-Some.ensures.cases.0

pub sides-preserved : goal.sides-preserved
sides-preserved g c = (
  sides_more g.R.Rows.contents g.R.Rows.place g.R.Rows.most c.args.rows.now c.sides.rows c.args.parts.now c.sides.parts c.args.sides.now c.sides.rest.now c.sides.invariant.0 c.in-Some.side.now c.in-Some.more.now c.in-Some.ensures.cases.0
      c.add_equal.new.rows c.add_equal.new.parts c.add_equal.ensures.stays c.in_ok-add_equal.ensures.adds,
  c.add_equal.ensures.rest ∙ c.sides.invariant.1,
)

pub returns-clause-adds : goal.returns-clause-adds
returns-clause-adds g c =
    sides_done g.R.Rows.contents g.R.Rows.place g.R.Rows.most c.args.rows.now c.sides.rows c.args.parts.now c.sides.parts c.args.sides.now c.sides.rest.now c.sides.invariant.0 c.in_default.ensures.cases
