use Rattle.std.proofs.Common.{◌<◌, length, sym, ◌∙◌, arith}
use Rattle.lk_store.proofs.Extending.{Extends-trans}
use Rattle.lk_derive_iota.proofs.Growing.{stated_at, whole_at}
use Rattle.lk_derive_iota.proofs.Expansions.{expansion_on, ctor_on}
use Rattle.lk_derive_iota.proofs.expanding.go_expanded.Goals as goal

pub state_expansion-requires-clause-asked : goal.state_expansion-requires-clause-asked
state_expansion-requires-clause-asked g c =
    let leaves = c.ask_sorted.ensures.leaves in
    expansion_on leaves.place leaves.library (leaves.keeps.trees.same c.args.m c.requires.m_in) (leaves.keeps.trees.same c.args.x c.requires.x_in) c.in_ok-asked.ensures.asked

pub at_constructor-requires-clause-stated : goal.at_constructor-requires-clause-stated
at_constructor-requires-clause-stated g c = stated_at (c.state_expansion.ensures.leaves.place ∙ c.ask_sorted.ensures.leaves.place) c.requires.stated

pub at_constructor-requires-clause-at : goal.at_constructor-requires-clause-at
at_constructor-requires-clause-at g c =
    let one = c.ask_sorted.ensures.leaves in
    let leaves = c.state_expansion.ensures.leaves in
    let longer = one.keeps.trees.longer in
    let x_in = c.requires.x_in in
    let later : c.args.x < length (g.D.Terms.contents c.ask_sorted.new.derives).trees = omega arith in
    ctor_on leaves.place leaves.library (leaves.keeps.trees.same c.args.x later) c.in_ok-state_expansion.ensures.at

pub returns-clause-whole : goal.returns-clause-whole
returns-clause-whole g c =
    let one = c.ask_sorted.ensures.leaves in
    let two = c.state_expansion.ensures.leaves in
    let keeps = Extends-trans _ _ _ one.keeps two.keeps in
    whole_at (sym (two.place ∙ one.place)) (sym (keeps.trees.same c.args.redex.now.application c.requires.expanded.under.redex.application_is.known)) c.in_ok-at_constructor.ensures.whole
