use Rattle.std.proofs.Common.{◌<◌, length}
use Rattle.lk_type.proofs.opening.has_binders.Given as goal

abbrev pub invariant-loop-i : goal.invariant-loop-i
invariant-loop-i g l = l.inside < length (g.L.Terms.contents l.looks).trees
