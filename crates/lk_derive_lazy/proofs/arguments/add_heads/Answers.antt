use Rattle.std.proofs.Common.{refl, ap}
use Rattle.lk_store.specs.Contents.{Contents, tree_at}
use Rattle.lk_premises.specs.Claims.{claims_at}
use Rattle.lk_derive_lazy.proofs.Spines.{heads_hold}
use Rattle.lk_derive_lazy.proofs.arguments.add_heads.Goals as goal

pub returns : goal.returns
returns g c = λ w k.
    let d : Contents = g.T.Terms.contents c.args.terms.now in
    c.in_ok-add_equality.ensures w _ _ _ refl refl (ap (claims_at d) c.no_premise.ensures) (heads_hold w (tree_at d c.args.f) (tree_at d c.args.g) k)
