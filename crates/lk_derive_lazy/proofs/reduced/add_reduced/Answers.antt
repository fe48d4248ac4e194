use Rattle.std.proofs.Common.{◌≡◌, [], ◌∷◌, refl, ap, ◌∙◌}
use Rattle.lk_rulebook.specs.Claims.{reduces, equals}
use Rattle.lk_store.specs.Contents.{Contents, tree_at}
use Rattle.lk_premises.specs.Claims.{claims_at}
use Rattle.lk_step.proofs.EqualitySteps.{equality_steps}
use Rattle.lk_derive_lazy.proofs.reduced.add_reduced.Goals as goal

pub returns : goal.returns
returns g c = λ w two.
    let d : Contents = g.L.Terms.contents c.args.looks.now in
    let a = tree_at d c.args.a in
    let b = tree_at d c.args.b in
    let x = tree_at d c.args.x in
    let y = tree_at d c.args.y in
    let listed : claims_at d (c.reduction.result ∷ c.reduction-2.result ∷ c.equality.result ∷ []) ≡ reduces a x ∷ reduces b y ∷ equals x y ∷ [] = rw (c.reduction.ensures, c.reduction-2.ensures, c.equality.ensures) refl in
    c.in_ok-add_equality.ensures w a b (reduces a x ∷ reduces b y ∷ equals x y ∷ []) refl refl (ap (claims_at d) c.in_ok-premises.ensures.items ∙ listed)
    ((equality_steps w).reduce a b x y two.left two.right (λ e i. absurd (two.unequal e)))
