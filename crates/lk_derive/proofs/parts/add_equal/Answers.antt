use Rattle.std.proofs.Common.{refl}
use Rattle.lk_derive.proofs.parts.add_equal.Goals as goal

pub add-requires-clause-claim_in : goal.add-requires-clause-claim_in
add-requires-clause-claim_in g c = rw c.equality.ensures (record { left_in = c.requires.known.0; right_in = c.requires.known.1 })

pub add-requires-clause-claim_is : goal.add-requires-clause-claim_is
add-requires-clause-claim_is g c = rw c.equality.ensures (λ v n a y. refl)

pub returns-clause-adds : goal.returns-clause-adds
returns-clause-adds g c = rw c.equality.ensures at c.add.ensures.adds
