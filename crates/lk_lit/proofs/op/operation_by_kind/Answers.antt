use Rattle.std.proofs.Common.{true, false}
use Rattle.lk_lit.proofs.Operations.{other_kind, of_kind}
use Rattle.lk_lit.proofs.op.operation_by_kind.Goals as goal

pub returns-then-not-is_constructor : goal.returns-then-not-is_constructor
returns-then-not-is_constructor g c d us e h is there =
    other_kind _ h.kind (c.if-not-is_definition.ensures d us e h is there) (c.if-not-is_constructor.ensures d us e h is there)

pub returns-then-may_give : goal.returns-then-may_give
returns-then-may_give g c d us e h is there = of_kind _ _ h.kind true c.in-Some.ensures (c.if-may_give.ensures d us e h is there)

pub returns-else-may_give : goal.returns-else-may_give
returns-else-may_give g c d us e h is there = of_kind _ _ h.kind false c.in-Some.ensures (c.if-may_give.ensures d us e h is there)
