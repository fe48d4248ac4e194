use Rattle.std.proofs.Common.{◌≡◌}
use Rattle.lk_tree.specs.Operations.{euclid}
use Rattle.lk_op.proofs.binary.gcd.Given as goal

abbrev pub invariant-divide : goal.invariant-divide
invariant-divide l = record { same : euclid l.rounds l.greater l.smaller ≡ euclid 257 l.a l.b }

abbrev pub decreases-divide : goal.decreases-divide
decreases-divide l = l.rounds
