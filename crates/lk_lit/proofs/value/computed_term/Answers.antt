use Rattle.std.proofs.Common.{refl}
use Rattle.lk_questions.specs.Literals.{result_of}
use Rattle.lk_lit.proofs.Settling.{settles_not}
use Rattle.lk_lit.proofs.value.computed_term.Goals as goal

pub returns-in-Err-clause-settles : goal.returns-in-Err-clause-settles
returns-in-Err-clause-settles g c o is = settles_not (λ u. result_of o) (rw c.in-Err.is at c.in_ok-nat_shape.ensures) refl
