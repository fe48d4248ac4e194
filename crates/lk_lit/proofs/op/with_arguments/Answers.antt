use Rattle.std.proofs.Common.{sym}
use Rattle.lk_lit.proofs.Arguments.{not_app, none_taken, one_alone, one_too_many, one_too_few, two_alone, two_too_many}
use Rattle.lk_lit.proofs.op.with_arguments.Goals as goal

pub returns-then-is_application : goal.returns-then-is_application
returns-then-is_application g c = one_too_many _ _ _ _ c.in-App.ensures.tree c.in-Unary.op c.in-Unary.is (sym c.if-is_application.ensures)

pub returns-else-is_application : goal.returns-else-is_application
returns-else-is_application g c =
    (c.in-Unary.is, c.in-App.ensures.known.1, one_alone c.args.operation _ _ _ c.in-App.ensures.tree (sym c.if-is_application.ensures))

pub returns-then-is_application-2 : goal.returns-then-is_application-2
returns-then-is_application-2 g c =
    two_too_many _ _ _ _ c.in-App.ensures.tree _ _ c.in-App-view.ensures.tree c.in-Binary.op c.in-Binary.is
    (sym c.if-is_application-2.ensures)

pub returns-else-is_application-2 : goal.returns-else-is_application-2
returns-else-is_application-2 g c = (
  c.in-Binary.is,
  c.in-App-view.ensures.known.1,
  c.in-App.ensures.known.1,
  two_alone c.args.operation _ _ _ c.in-App.ensures.tree _ _ c.in-App-view.ensures.tree (sym c.if-is_application-2.ensures),
)

pub returns-in_default-view : goal.returns-in_default-view
returns-in_default-view g c =
    one_too_few _ _ _ _ c.in-App.ensures.tree c.in-Binary.op c.in-Binary.is
    (not_app _ c.view-in-Binary.result _ c.in_default-view.not-App c.view-in-Binary.ensures.tree)

pub returns-in_default : goal.returns-in_default
returns-in_default g c = none_taken c.args.operation _ (not_app _ c.view.result _ c.in_default.not-App c.view.ensures.tree)
