use Rattle.std.proofs.Common.{◌<◌, length}
use Rattle.lk_chain.proofs.spines.has_arguments.Given as goal

abbrev pub invariant-loop-i : goal.invariant-loop-i
invariant-loop-i g l = l.inside < length (g.L.Terms.contents l.looks).trees
