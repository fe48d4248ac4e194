use Rattle.std.proofs.Common.{refl, subst, arith}
use Rattle.lk_store.specs.Contents.{tree_at}
use Rattle.lk_derive_iota.specs.Taken.{IsCompared}
use Rattle.lk_derive_iota.proofs.Growing.{under_way_on}
use Rattle.lk_derive_iota.proofs.KRuns.{compare_within, k_taken, k_other, taken_on}
use Rattle.lk_derive_iota.proofs.candidates.by_candidate.Goals as goal

pub is_of_type-requires-clause-compared : goal.is_of_type-requires-clause-compared
is_of_type-requires-clause-compared g c =
    let t = tree_at (g.D.Terms.contents c.args.derives.now) in
    compare_within (t c.args.ty) (t c.args.d) c.requires.at

pub returns-then-same-clause-is : goal.returns-then-same-clause-is
returns-then-same-clause-is g c =
    let t = tree_at (g.D.Terms.contents c.args.derives.now) in
    let w = (g.D.Looks.sight (g.D.Terms.rest c.args.derives.now)).basis.place in
    let keeps = c.is_of_type.ensures.leaves.keeps in
    let longer = keeps.trees.longer in
    let d_in = c.requires.d_in in
    let compared = subst (λ y. IsCompared w (t c.args.d) (t c.args.ty) y) c.if-same.true c.in_ok-same.ensures.told in (
      omega arith,
      taken_on keeps (keeps.trees.same c.args.redex.now.major c.requires.at.under.redex.major_is.known) (keeps.trees.same c.args.d c.requires.d_in) (k_taken (t c.args.ty) (t c.args.d) c.requires.at compared),
    )

pub returns-clause-is : goal.returns-clause-is
returns-clause-is g c =
    let t = tree_at (g.D.Terms.contents c.args.derives.now) in
    let w = (g.D.Looks.sight (g.D.Terms.rest c.args.derives.now)).basis.place in
    let keeps = c.is_of_type.ensures.leaves.keeps in
    let compared = subst (λ y. IsCompared w (t c.args.d) (t c.args.ty) y) c.if-same.false c.in_ok-same.ensures.told in
    under_way_on refl refl keeps (keeps.trees.same c.args.redex.now.major c.requires.at.under.redex.major_is.known) (k_other (t c.args.ty) (t c.args.d) c.requires.at compared)
