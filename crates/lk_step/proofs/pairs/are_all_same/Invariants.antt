use Rattle.std.proofs.Common.{length}
use Rattle.lk_step.specs.Pairs.{IsComparing}
use Rattle.lk_step.proofs.pairs.are_all_same.Given as goal

abbrev pub invariant-pairs : goal.invariant-pairs
invariant-pairs g l = IsComparing g.D.Terms.contents g.D.Terms.rest g.D.Looks.sight l.fn.derives l.derives l.fn.pairs l.rest l.fn.enough

abbrev pub decreases-pairs : goal.decreases-pairs
decreases-pairs g l = length l.rest
