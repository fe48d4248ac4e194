use Rattle.std.proofs.Common.{subst}
use Rattle.lk_store.specs.Contents.{tree_at}
use Rattle.lk_step.specs.Pairs.{ArePairsIf}
use Rattle.lk_derive_equal.proofs.SpineLine.{spines_uneven}
use Rattle.lk_derive_equal.proofs.spines.by_spines.Goals as goal

pub by_pairs-requires-clause-pairs_are : goal.by_pairs-requires-clause-pairs_are
by_pairs-requires-clause-pairs_are g c =
    let d = g.D.Terms.contents c.args.derives.now in
    rw c.deref.ensures.value (subst (λ o. ArePairsIf d c.args.a c.args.b o) c.in-Some.is c.in_ok-found.ensures)

pub returns-in-None-clause-tells : goal.returns-in-None-clause-tells
returns-in-None-clause-tells g c =
    let w = (g.D.Looks.sight (g.D.Terms.rest c.args.derives.now)).basis.place in
    let d = g.D.Terms.contents c.args.derives.now in
    λ says cost h. spines_uneven w (tree_at d c.args.a) (tree_at d c.args.b) c.requires.applied (subst (λ o. ArePairsIf d c.args.a c.args.b o) c.in-None.is c.in_ok-found.ensures) says cost h
