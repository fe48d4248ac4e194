use Rattle.std.proofs.Common.{length}
use Rattle.lk_derive.proofs.Among.{IsWriting}
use Rattle.lk_derive.proofs.writing.write_row.Given as goal

abbrev pub invariant-steps : goal.invariant-steps
invariant-steps g l = IsWriting (g.R.Rows.place l.rows) (g.R.Rows.contents l.rows) l.initial.notes l.fn.steps l.notes l.rest

abbrev pub decreases-steps : goal.decreases-steps
decreases-steps g l = length l.rest
