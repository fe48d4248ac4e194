use Rattle.std.proofs.Common.{subst}
use Rattle.lk_store.specs.Contents.{Contents, tree_at}
use Rattle.lk_lazy.specs.Spines.{IsPaired, IsPairedIf}
use Rattle.lk_derive_lazy.proofs.Levels.{uneven_unlike, other_unlike}
use Rattle.lk_derive_lazy.proofs.alike.alike.Goals as goal

pub returns-then-not-branch : goal.returns-then-not-branch
returns-then-not-branch g c =
    let d : Contents = g.T.Terms.contents c.args.terms.now in
    let p : IsPaired d c.args.a c.args.b c.in-Some.found = subst (λ o. IsPairedIf d c.args.a c.args.b o) c.in-Some.is c.in_ok-paired.ensures in
    other_unlike (tree_at d c.args.a) (tree_at d c.args.b) (tree_at d c.in-Some.found.left) (tree_at d c.in-Some.found.right) p.left_head p.right_head (c.in_ok-are_one-in-Some.ensures.other c.if-not-branch.true)

pub returns-in-None : goal.returns-in-None
returns-in-None g c =
    let d : Contents = g.T.Terms.contents c.args.terms.now in
    uneven_unlike (tree_at d c.args.a) (tree_at d c.args.b) (subst (λ o. IsPairedIf d c.args.a c.args.b o) c.in-None.is c.in_ok-paired.ensures)
