use Rattle.std.proofs.Common.{Some, [], ◌∷◌}
use Rattle.lk_tree.specs.Spine.{args}
use Rattle.lk_tree.specs.Operations.{op_value}
use Rattle.lk_op.specs.Ops.{unary_at}
use Rattle.lk_lit.specs.Operations.{operation_at}
use Rattle.lk_lit.specs.Steps.{first_step}
use Rattle.lk_lit.proofs.Parts.{part_as, unary_step}
use Rattle.lk_lit.proofs.step.by_first.Goals as goal

pub returns-in-Unary : goal.returns-in-Unary
returns-in-Unary g c operation at_head taken =
    let are = rw c.in-Unary.is at taken in
    let op = c.in-Unary.op in
    let n = c.args.first in
    part_as c.args.e (λ t. first_step (Some (operation_at operation)) (args (t c.args.e)) (Some n)) (unary_step op operation _ _ n are.0 are.2)
    (c.compute.ensures (op_value (unary_at op) (n ∷ [])) c.unary_value.ensures)
