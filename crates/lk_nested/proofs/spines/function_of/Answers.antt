use Rattle.std.proofs.Common.{ap, ◌∙◌}
use Rattle.lk_nested.specs.Nestings.{function_at}
use Rattle.lk_nested.proofs.Applied.{node_applied}
use Rattle.lk_nested.proofs.spines.function_of.Goals as goal

pub returns-clause-function : goal.returns-clause-function
returns-clause-function g c =
    let s = g.T.Terms.contents c.args.terms.now in
    ap (function_at s) c.function_in.ensures ∙ node_applied s c.view.result c.args.e c.view.ensures.tree
