use Rattle.std.specs.Prelude.{IfOk}
use Rattle.std.proofs.Common.{subst}
use Rattle.lk_store.specs.Contents.{tree_at, IsTree}
use Rattle.lk_inductive.specs.Recursors.{rule_value}
use Rattle.lk_block.specs.Shapes.{shape_at, constructor_shape_at}
use Rattle.lk_recursor.specs.Fronts.{read_by}
use Rattle.lk_recursor.proofs.Compared.{comparison-known, renamed-steady}
use Rattle.lk_recursor.proofs.renaming.renamed_rule.Goals as goal

pub renamed-requires-clause-pair_is : goal.renamed-requires-clause-pair_is
renamed-requires-clause-pair_is g c = comparison-known (g.T.Terms.contents c.args.terms.now) (g.T.Terms.contents c.rule_value.new.terms) c.in_ok-made.ensures.keeps c.args.pair.now c.requires.pair_is

pub returns-clause-ok : goal.returns-clause-ok
returns-clause-ok g c =
    let before = g.T.Terms.contents c.args.terms.now in
    let between = g.T.Terms.contents c.rule_value.new.terms in
    let after = g.T.Terms.contents c.renamed.new.terms in
    subst (λ t. IfOk c.renamed.result (λ e. IsTree after e t))
    (renamed-steady before between c.in_ok-made.ensures.keeps c.args.pair.now c.requires.pair_is c.in_ok-made.made
    (rule_value (read_by before c.args.pair.now.shared.shape.now c.args.pair.now.shared.front.now) (shape_at before c.args.pair.now.shared.shape.now) (tree_at before c.args.minor) (constructor_shape_at before c.args.constructor.now)) c.in_ok-made.ensures.ok.is) c.renamed.ensures.ok
