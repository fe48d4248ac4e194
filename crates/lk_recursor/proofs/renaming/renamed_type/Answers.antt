use Rattle.std.specs.Prelude.{IfOk}
use Rattle.std.proofs.Common.{subst}
use Rattle.lk_store.specs.Contents.{IsTree}
use Rattle.lk_recursor.specs.Comparisons.{own_of}
use Rattle.lk_recursor.proofs.Compared.{comparison-known, renamed-steady}
use Rattle.lk_recursor.proofs.renaming.renamed_type.Goals as goal

pub renamed-requires-clause-pair_is : goal.renamed-requires-clause-pair_is
renamed-requires-clause-pair_is g c = comparison-known (g.T.Terms.contents c.args.terms.now) (g.T.Terms.contents c.recursor_type.new.terms) c.in_ok-made.ensures.keeps c.args.pair.now c.requires

pub returns-clause-ok : goal.returns-clause-ok
returns-clause-ok g c =
    let before = g.T.Terms.contents c.args.terms.now in
    let between = g.T.Terms.contents c.recursor_type.new.terms in
    let after = g.T.Terms.contents c.renamed.new.terms in
    subst (λ t. IfOk c.renamed.result (λ e. IsTree after e t))
    (renamed-steady before between c.in_ok-made.ensures.keeps c.args.pair.now c.requires c.in_ok-made.made (own_of before c.args.pair.now).type c.in_ok-made.ensures.ok.is) c.renamed.ensures.ok
