-- The operations on numbers that constants stand for.
use Rattle.lk_tree.specs.Operations.{Op}
use Rattle.lk_op.specs.Ops.{unary_at, binary_at}
use Rattle.lk_replay_reduce.specs.declared.operations.Operation.{Operation}
use Rattle.lk_replay_reduce.specs.declared.operations.Operation.TheVariants.{Unary, Binary}

abbrev pub operation_at : Operation → Op
operation_at (Unary op) = unary_at op
operation_at (Binary op) = binary_at op
