use Rattle.std.proofs.Common.{refl}
use Rattle.lk_lit.specs.Shapes.{string_shape_by}
use Rattle.lk_lit.proofs.Settling.{given_on}
use Rattle.lk_lit.proofs.shapes.string_shape.Goals as goal

pub returns-in-Ok : goal.returns-in-Ok
returns-in-Ok g c =
    given_on (λ e _. string_shape_by e) string_shape_by (rw c.in-Ok.is at c.in_ok-string.ensures) refl
    (λ e. refl) c.string_shape_by.ensures
