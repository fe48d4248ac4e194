use Rattle.std.proofs.Common.{length}
use Rattle.lk_step.specs.Pairs.{IsAsking}
use Rattle.lk_step.proofs.pairs.asked_of.Given as goal

abbrev pub invariant-pairs : goal.invariant-pairs
invariant-pairs g l = IsAsking (g.L.Terms.contents l.looks) l.fn.pairs l.rest l.asked.asks.items l.asked.premises.items

abbrev pub decreases-pairs : goal.decreases-pairs
decreases-pairs g l = length l.rest
