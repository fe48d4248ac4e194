use Rattle.std.proofs.Common.{refl}
use Rattle.lk_questions.specs.Shapes.{nat_shape_by}
use Rattle.lk_lit.proofs.Settling.{given_on}
use Rattle.lk_lit.proofs.shapes.nat_shape.Goals as goal

pub returns-in-Ok : goal.returns-in-Ok
returns-in-Ok g c =
    given_on (λ e _. nat_shape_by e e.kind) (λ e. nat_shape_by e e.kind)
    (rw c.in-Ok.is at c.in_ok-nat.ensures) refl (λ e. refl) c.nat_shape_by.ensures
