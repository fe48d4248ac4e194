use Rattle.std.proofs.Common.{◌<◌, length, refl, arith}
use Rattle.lk_tree.specs.Spine.{args}
use Rattle.lk_store.specs.Contents.{tree_at, list_at}
use Rattle.lk_derive_iota.proofs.Growing.{under_way_on}
use Rattle.lk_derive_iota.proofs.KRuns.{candidate_on, k_few, taken_at}
use Rattle.lk_derive_iota.proofs.candidates.by_levels.Goals as goal

pub by_candidate-requires-clause-d_in : goal.by_candidate-requires-clause-d_in
by_candidate-requires-clause-d_in g c = (rw c.in-Some.is at c.in_ok-made.ensures.is).0.known

pub by_candidate-requires-clause-at : goal.by_candidate-requires-clause-at
by_candidate-requires-clause-at g c =
    let leaves = c.at_parameters.ensures.leaves in
    let made = rw c.in-Some.is at c.in_ok-made.ensures.is in
    candidate_on leaves.place leaves.library leaves.keeps (leaves.keeps.trees.same c.args.redex.now.major c.requires.at.under.redex.major_is.known) (leaves.keeps.trees.same c.args.ty c.requires.ty_in) c.requires.at made.1 made.0.is

pub returns-in-Some-clause-is : goal.returns-in-Some-clause-is
returns-in-Some-clause-is g c =
    let leaves = c.at_parameters.ensures.leaves in
    let d = g.D.Terms.contents c.by_candidate.new.derives in
    taken_at d c.args.row.now c.args.enough c.args.redex.now (tree_at d c.args.redex.now.major) (tree_at d) c.by_candidate.result leaves.place leaves.library c.by_candidate.ensures.is

pub returns-in-None-clause-is : goal.returns-in-None-clause-is
returns-in-None-clause-is g c =
    let t = tree_at (g.D.Terms.contents c.args.derives.now) in
    let leaves = c.at_parameters.ensures.leaves in
    let h = c.requires.at in
    let few = rw c.in-None.is at c.in_ok-made.ensures.is in
    let parameters = h.is.parameters_are in
    let less : length (args (t c.args.ty)) < h.b.ctor.parameters = omega arith in
    under_way_on refl refl leaves.keeps (leaves.keeps.trees.same c.args.redex.now.major h.under.redex.major_is.known) (k_few c.args.constructor (t c.args.ty) (list_at (g.D.Terms.contents c.args.derives.now) c.args.levels) h less)
