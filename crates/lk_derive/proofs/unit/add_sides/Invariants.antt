use Rattle.std.proofs.Common.{◌≡◌, length}
use Rattle.lk_derive.proofs.SidesAdded.{IsAdding}
use Rattle.lk_derive.proofs.unit.add_sides.Given as goal

abbrev pub invariant-sides : goal.invariant-sides
invariant-sides g l = IsAdding g.R.Rows.contents g.R.Rows.place g.R.Rows.most l.fn.rows l.rows l.fn.parts l.parts l.fn.sides l.rest
    × (g.R.Rows.rest l.rows ≡ g.R.Rows.rest l.fn.rows)

abbrev pub decreases-sides : goal.decreases-sides
decreases-sides g l = length l.rest
