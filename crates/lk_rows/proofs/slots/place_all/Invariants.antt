use Rattle.lk_rows.specs.Slots.{ArePlaced, hashes_of}
use Rattle.lk_rows.proofs.slots.place_all.Given as goal

abbrev pub invariant-loop-i : goal.invariant-loop-i
invariant-loop-i g l = ArePlaced (hashes_of g.R.Row.key (g.R.Row.hash l.seed) l.rows) l.tags l.slots l.most l.i
