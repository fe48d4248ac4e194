use Rattle.std.proofs.Common.{refl, sym}
use Rattle.lk_store.specs.Contents.{tree_at}
use Rattle.lk_derive_iota.proofs.Growing.{stated_at, under_way_at}
use Rattle.lk_derive_iota.proofs.PremiseRuns.{taken_there, subjects_on}
use Rattle.lk_derive_iota.proofs.premises.premise_of.Goals as goal

pub take_candidate-requires-clause-stated : goal.take_candidate-requires-clause-stated
take_candidate-requires-clause-stated g c = stated_at c.candidate_of.ensures.leaves.place c.requires.stated

pub take_candidate-requires-clause-d_in : goal.take_candidate-requires-clause-d_in
take_candidate-requires-clause-d_in g c = (rw c.in-Some.is at c.in_ok-taken.ensures.is).0

pub take_candidate-requires-clause-taken : goal.take_candidate-requires-clause-taken
take_candidate-requires-clause-taken g c =
    let leaves = c.candidate_of.ensures.leaves in
    taken_there leaves.place leaves.library (rw c.in-Some.is at c.in_ok-taken.ensures.is).1

pub read_premise-requires-clause-stated : goal.read_premise-requires-clause-stated
read_premise-requires-clause-stated g c = stated_at c.candidate_of.ensures.leaves.place c.requires.stated

pub read_premise-requires-clause-at : goal.read_premise-requires-clause-at
read_premise-requires-clause-at g c =
    let leaves = c.candidate_of.ensures.leaves in
    under_way_at leaves.place leaves.library refl (rw c.in-None.is at c.in_ok-taken.ensures.is)

pub returns-in-Some-clause-at : goal.returns-in-Some-clause-at
returns-in-Some-clause-at g c =
    let leaves = c.candidate_of.ensures.leaves in
    subjects_on (g.D.Terms.contents c.take_candidate.new.derives) c.take_candidate.new.row c.args.enough c.args.redex.now (sym leaves.place) (sym leaves.library) c.take_candidate.result (tree_at (g.D.Terms.contents c.take_candidate.new.derives)) c.take_candidate.ensures.at

pub returns-in-None-clause-at : goal.returns-in-None-clause-at
returns-in-None-clause-at g c =
    let leaves = c.candidate_of.ensures.leaves in
    subjects_on (g.D.Terms.contents c.read_premise.new.derives) c.read_premise.new.row c.args.enough c.args.redex.now (sym leaves.place) (sym leaves.library) c.read_premise.result (tree_at (g.D.Terms.contents c.read_premise.new.derives)) c.read_premise.ensures.at
