use Rattle.std.proofs.lemmas.Result.{IfOk-weaker}
use Rattle.std.proofs.Common.{◌∙◌}
use Rattle.lk_level_order.proofs.Tested.{assigned_at}
use Rattle.lk_level_order.proofs.values.node_value.Goals as goal

pub returns-in-Param : goal.returns-in-Param
returns-in-Param c =
    let is = c.in-Param.is in
    IfOk-weaker c.value_of-in-Param.result _ _
    (λ v h d different few values. rw is (h.1 ∙ assigned_at d.names c.args.assignment.now c.in-Param.n different few h.0))
    c.value_of-in-Param.ensures
