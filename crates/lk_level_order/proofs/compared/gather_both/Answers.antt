use Rattle.std.proofs.Common.{sym, ◌∙◌}
use Rattle.lk_store.specs.Contents.{level_at}
use Rattle.lk_level_order.proofs.Gathered.{has_none}
use Rattle.lk_level_order.proofs.compared.gather_both.Goals as goal

pub returns : goal.returns
returns g c =
    let t = g.T.Terms.contents c.args.terms.now in
    has_none t (level_at t c.args.a) (level_at t c.args.b) c.args.names.now c.requires.none
    (sym c.level_has_params.ensures ∙ c.if-level_has_params.false) (sym c.level_has_params-else-level_has_params.ensures ∙ c.if-level_has_params-2.false)
