use Rattle.std.proofs.Common.{sym}
use Rattle.lk_derive_iota.proofs.Growing.{stated_at, whole_at}
use Rattle.lk_derive_iota.proofs.PremiseRuns.{claim_at, split_on}
use Rattle.lk_derive_iota.proofs.recursors.fill_row.Goals as goal

pub redex_of-requires-clause-fine : goal.redex_of-requires-clause-fine
redex_of-requires-clause-fine g c = c.requires.claimed.askable

pub fill_split-requires-clause-stated : goal.fill_split-requires-clause-stated
fill_split-requires-clause-stated g c = stated_at c.redex_of.ensures.leaves.place c.requires.stated

pub fill_split-requires-clause-claimed : goal.fill_split-requires-clause-claimed
fill_split-requires-clause-claimed g c =
    let leaves = c.redex_of.ensures.leaves in
    claim_at leaves.place (leaves.keeps.trees.same c.args.e c.requires.e_in) c.requires.claimed

pub fill_split-requires-clause-split : goal.fill_split-requires-clause-split
fill_split-requires-clause-split g c =
    let leaves = c.redex_of.ensures.leaves in
    split_on (g.D.Terms.contents c.redex_of.new.derives) leaves.place leaves.library (leaves.keeps.trees.same c.args.e c.requires.e_in) c.in_ok-split.split c.in_ok-split.ensures.is

pub returns-clause-whole : goal.returns-clause-whole
returns-clause-whole g c =
    let leaves = c.redex_of.ensures.leaves in
    whole_at (sym leaves.place) (sym (leaves.keeps.trees.same c.args.e c.requires.e_in)) c.in_ok-fill_split.ensures.whole
