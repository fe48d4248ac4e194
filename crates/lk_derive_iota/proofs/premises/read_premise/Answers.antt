use Rattle.std.proofs.Common.{sym}
use Rattle.lk_derive_iota.proofs.PremiseRuns.{subject_on, read_on}
use Rattle.lk_derive_iota.proofs.premises.read_premise.Goals as goal

pub state_major-requires-clause-reads : goal.state_major-requires-clause-reads
state_major-requires-clause-reads g c =
    let leaves = c.read_major.ensures.leaves in
    read_on leaves.place leaves.library c.in_ok-major.ensures.reads

pub returns-clause-at : goal.returns-clause-at
returns-clause-at g c =
    let leaves = c.read_major.ensures.leaves in
    subject_on (sym leaves.place) (sym leaves.library) (c.state_major.ensures.leaves.keeps.trees.same c.in_ok-major.major.read c.in_ok-major.ensures.read_in) c.in_ok-state_major.ensures.at
