use Rattle.lk_lit.proofs.Arguments.{not_app}
use Rattle.lk_store.specs.Contents.{tree_at}
use Rattle.lk_step.proofs.Stating.{no_operands, one_operand, two_operands}
use Rattle.lk_step.proofs.operations.operands_of.Goals as goal

pub unreachable-requires : goal.unreachable-requires
unreachable-requires g c = no_operands (tree_at (g.T.Terms.contents c.args.terms.now) c.args.e) (not_app _ c.view.result _ c.in_default.not-App c.view.ensures.tree) c.requires.few

pub returns-in-App-view : goal.returns-in-App-view
returns-in-App-view g c = (c.in-App-view.ensures.known.1, c.in-App.ensures.known.1, two_operands _ _ _ _ _ c.in-App.ensures.tree c.in-App-view.ensures.tree c.requires.few)

pub returns-in_default-view : goal.returns-in_default-view
returns-in_default-view g c = (c.in-App.ensures.known.1, one_operand _ _ _ c.in-App.ensures.tree (not_app _ c.view-in-App.result _ c.in_default-view.not-App c.view-in-App.ensures.tree))
