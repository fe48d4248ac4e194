use Rattle.std.proofs.Common.{map, subst}
use Rattle.std.specs.Prelude.{IfOk}
use Rattle.lk_store.specs.Contents.{tree_at, IsTree}
use Rattle.lk_recursor.proofs.Lists.{arrows_are}
use Rattle.lk_recursor.proofs.binders.arrows_to.Goals as goal

pub returns-clause-ok : goal.returns-clause-ok
returns-clause-ok g c =
    let before = g.T.Terms.contents c.args.terms.now in
    let after = g.T.Terms.contents c.over_domains.new.terms in
    subst (λ t. IfOk c.over_domains.result (λ r. IsTree after r t)) (arrows_are (map (tree_at before) c.args.domains.now) (tree_at before c.args.e)) c.over_domains.ensures.ok
