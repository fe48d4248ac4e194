use Rattle.std.proofs.Common.{Some, [], ◌∷◌}
use Rattle.lk_tree.specs.Spine.{head}
use Rattle.lk_tree.specs.Operations.{op_value}
use Rattle.lk_op.specs.Ops.{binary_at}
use Rattle.lk_lit.specs.Steps.{op_at, second_step}
use Rattle.lk_lit.proofs.Parts.{part_as, binary_step}
use Rattle.lk_lit.proofs.step.second_number.Goals as goal

pub returns-in-Binary : goal.returns-in-Binary
returns-in-Binary g c =
    let op = c.in-Binary.op in
    let m = c.args.first in
    let n = c.args.second in
    part_as c.args.e (λ t. second_step (op_at (head (t c.args.e))) m (Some n)) (binary_step op _ m n (rw c.in-Binary.is at c.in-Some.ensures))
    (c.compute.ensures (op_value (binary_at op) (m ∷ n ∷ [])) c.binary_value.ensures)
