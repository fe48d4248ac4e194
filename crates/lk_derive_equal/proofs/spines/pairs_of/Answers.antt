use Rattle.std.proofs.Common.{refl, sym, subst}
use Rattle.lk_step.specs.Pairs.{heads_pair, ArePairs}
use Rattle.lk_lazy.specs.Spines.{IsPairedIf}
use Rattle.lk_derive_equal.proofs.Paired.{paired_whole}
use Rattle.lk_derive_equal.proofs.spines.pairs_of.Goals as goal

pub returns-in_ok-pairs-in-Some : goal.returns-in_ok-pairs-in-Some
returns-in_ok-pairs-in-Some g c =
    let d = g.T.Terms.contents c.args.terms.now in
    let p = c.in-Some.found in
    subst (λ ps. ArePairs d c.args.a c.args.b ps) (sym c.in_ok-pairs-in-Some.ensures)
    (paired_whole d c.args.a c.args.b p (heads_pair p.left p.right) refl refl (subst (λ o. IsPairedIf d c.args.a c.args.b o) c.in-Some.is c.in_ok-paired.ensures))

pub returns-in-None : goal.returns-in-None
returns-in-None g c =
    let d = g.T.Terms.contents c.args.terms.now in
    subst (λ o. IsPairedIf d c.args.a c.args.b o) c.in-None.is c.in_ok-paired.ensures
