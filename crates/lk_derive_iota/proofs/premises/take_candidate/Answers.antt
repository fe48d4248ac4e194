use Rattle.std.proofs.Common.{◌<◌, length, sym, arith}
use Rattle.lk_derive_iota.proofs.PremiseRuns.{subject_on, asked_on}
use Rattle.lk_derive_iota.proofs.premises.take_candidate.Goals as goal

pub state_candidate-requires-clause-asked : goal.state_candidate-requires-clause-asked
state_candidate-requires-clause-asked g c =
    let leaves = c.ask_compared.ensures.leaves in
    asked_on leaves.place leaves.library (leaves.keeps.trees.same c.args.redex.now.major c.requires.taken.under.redex.major_is.known) (leaves.keeps.trees.same c.args.d c.requires.d_in) c.in_ok-compared.ensures.asked

pub returns-clause-at : goal.returns-clause-at
returns-clause-at g c =
    let leaves = c.ask_compared.ensures.leaves in
    let longer = leaves.keeps.trees.longer in
    let d_in = c.requires.d_in in
    let later : c.args.d < length (g.D.Terms.contents c.ask_compared.new.derives).trees = omega arith in
    subject_on (sym leaves.place) (sym leaves.library) (c.state_candidate.ensures.leaves.keeps.trees.same c.args.d later) c.in_ok-state_candidate.ensures.at
