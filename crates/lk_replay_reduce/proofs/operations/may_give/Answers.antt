use Rattle.std.proofs.Common.{◌∙◌}
use Rattle.lk_lit.proofs.Operations.{binary_is_def}
use Rattle.lk_replay_reduce.proofs.operations.may_give.Goals as goal

pub returns-in-Succ : goal.returns-in-Succ
returns-in-Succ c d us e g h is = rw (c.in-Unary.is, c.in-Succ.is) (c.is_constructor.ensures d us e g h is)

pub returns-in-Log2 : goal.returns-in-Log2
returns-in-Log2 c d us e g h is = rw (c.in-Unary.is, c.in-Log2.is) (c.is_definition.ensures d us e g h is)

pub returns-in-Binary : goal.returns-in-Binary
returns-in-Binary c d us e g h is = rw c.in-Binary.is (c.is_definition-in-Binary.ensures d us e g h is ∙ binary_is_def c.in-Binary.field-0 g.kind)
