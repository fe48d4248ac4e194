use Rattle.std.proofs.Common.{◌∙◌}
use Rattle.lk_store.specs.Contents.{tree_at}
use Rattle.lk_premises.proofs.Comparing.{applied_is}
use Rattle.lk_premises.proofs.applied.is_applied.Goals as goal

pub returns : goal.returns
returns g c =
    let t = tree_at (g.T.Terms.contents c.args.terms.now) in
    c.is_spine.ensures ∙ applied_is (t c.args.front) (t c.args.a) (t c.args.b)
