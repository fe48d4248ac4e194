use Rattle.std.proofs.Common.{ap, ◌∙◌}
use Rattle.lk_lists.specs.Names.{named_at}
use Rattle.lk_nested.proofs.Applied.{node_named}
use Rattle.lk_nested.proofs.nested.constant_name.Goals as goal

pub returns-clause-name : goal.returns-clause-name
returns-clause-name g c =
    let s = g.T.Terms.contents c.args.terms.now in
    ap (named_at s) c.constant_in.ensures ∙ node_named s c.view.result c.args.e c.view.ensures.tree
