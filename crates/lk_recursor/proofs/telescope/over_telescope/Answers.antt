use Rattle.std.proofs.Common.{map, ap, ◌∙◌}
use Rattle.lk_store.specs.Contents.{tree_at}
use Rattle.lk_subst.specs.Numbers.{trees-steady}
use Rattle.lk_recursor.specs.Binders.{over_domains}
use Rattle.lk_recursor.proofs.telescope.over_telescope.Goals as goal

pub returns-clause-ok : goal.returns-clause-ok
returns-clause-ok g c =
    let before = g.T.Terms.contents c.args.terms.now in
    let now = g.T.Terms.contents c.close_runs.new.terms in
    let b = c.args.binder in
    let As = c.args.telescope.now.domains.items in
    let body = c.in_ok-body.ensures in
    let made = c.in_ok-made.ensures.ok in
    record {
      known = made.known;
      is =
          made.is
          ∙ ap (λ Bs. over_domains b (map (tree_at now) Bs) (tree_at now c.in_ok-body.body)) c.deref.ensures.value
          ∙ ap (λ Ds. over_domains b Ds (tree_at now c.in_ok-body.body)) (trees-steady before now As body.keeps c.requires.domains_in)
          ∙ ap (over_domains b (map (tree_at before) As)) body.ok.is;
    }
