use Rattle.std.proofs.Common.{refl, sym, ◌∙◌}
use Rattle.lk_derive_iota.proofs.Growing.{stated_at, whole_at}
use Rattle.lk_derive_iota.proofs.RedexRuns.{start}
use Rattle.lk_derive_iota.proofs.PremiseRuns.{subject_on}
use Rattle.lk_derive_iota.proofs.recursors.fill_redex.Goals as goal

pub premise_of-requires-clause-at : goal.premise_of-requires-clause-at
premise_of-requires-clause-at g c = start c.requires.redex c.requires.empty c.requires.claimed

pub at_premise-requires-clause-stated : goal.at_premise-requires-clause-stated
at_premise-requires-clause-stated g c = stated_at c.premise_of.ensures.leaves.place c.requires.stated

pub at_premise-requires-clause-at : goal.at_premise-requires-clause-at
at_premise-requires-clause-at g c =
    let leaves = c.premise_of.ensures.leaves in
    subject_on leaves.place leaves.library refl c.in_ok-m.ensures.at

pub returns-clause-whole : goal.returns-clause-whole
returns-clause-whole g c =
    let leaves = c.premise_of.ensures.leaves in
    let redex = c.requires.redex.redex in
    whole_at (sym leaves.place) (sym (leaves.keeps.trees.same c.args.redex.now.application redex.application_is.known ∙ redex.application_is.is)) c.in_ok-at_premise.ensures.whole
