use Rattle.std.proofs.Common.{◌≡◌, ◌∙◌, sym, ap, subst, map, drop}
use Rattle.std.specs.Prelude.{IfOk}
use Rattle.std.proofs.lemmas.List.{drop-map}
use Rattle.lk_store.specs.Contents.{name_at, tree_at}
use Rattle.lk_eta.specs.Fields.{ArePairs}
use Rattle.lk_derive_eta.proofs.fields.pairs_of.Goals as goal

pub returns-clause-ok : goal.returns-clause-ok
returns-clause-ok g c =
    let d = g.T.Terms.contents c.args.terms.now in
    let t = tree_at d in
    let n = c.args.parameters in
    let items = c.in_ok-values.values.items in
    let behind : c.behind_parameters.result.now ≡ drop n items = c.behind_parameters.ensures ∙ ap (drop n) c.deref.ensures.value in
    subst (λ xs. IfOk c.pair_up.result (λ pairs. ArePairs (g.T.Terms.contents c.pair_up.new.terms) (name_at d c.args.inductive) (t c.args.a) xs pairs.items))
    (ap (map t) behind ∙ sym (drop-map t n items) ∙ ap (drop n) c.in_ok-values.ensures.are) c.pair_up.ensures.ok
