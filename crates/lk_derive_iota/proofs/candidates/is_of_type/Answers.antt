use Rattle.std.proofs.Common.{ap}
use Rattle.lk_questions.specs.Query.{same}
use Rattle.lk_store.specs.Contents.{tree_at}
use Rattle.lk_derive_iota.proofs.Growing.{within_at}
use Rattle.lk_derive_iota.proofs.KRuns.{own_within, same_within, compared_of}
use Rattle.lk_derive_iota.proofs.candidates.is_of_type.Goals as goal

pub type_of-requires-clause-answered : goal.type_of-requires-clause-answered
type_of-requires-clause-answered g c = own_within c.requires.compared

pub are_same-requires-clause-answered : goal.are_same-requires-clause-answered
are_same-requires-clause-answered g c =
    let m = g.D.Terms.contents c.type_of.new.derives in
    let O = tree_at m c.in_ok-own.own in
    let told = c.in_ok-own.ensures.told in
    within_at {most = c.args.enough} {q = same (tree_at (g.D.Terms.contents c.args.derives.now) c.args.ty) O} c.type_of.ensures.leaves.place (ap (λ z. same z O) (c.type_of.ensures.leaves.keeps.trees.same c.args.ty c.requires.ty_in)) (same_within c.requires.compared O told.cost told.answered)

pub returns-clause-told : goal.returns-clause-told
returns-clause-told g c = compared_of c.type_of.ensures.leaves.place (c.type_of.ensures.leaves.keeps.trees.same c.args.ty c.requires.ty_in) c.in_ok-own.ensures.told c.in_ok-y.ensures.told
