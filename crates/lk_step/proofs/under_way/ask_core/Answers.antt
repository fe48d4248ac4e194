use Rattle.std.proofs.Common.{sym, ◌∙◌}
use Rattle.lk_rulebook.specs.Place.{Place}
use Rattle.lk_store.specs.Contents.{Contents}
use Rattle.lk_step.proofs.PartsIn.{asks_core_itself, asks_core_more}
use Rattle.lk_step.proofs.under_way.ask_core.Goals as goal

pub returns-then-same_tree-clause-asks : goal.returns-then-same_tree-clause-asks
returns-then-same_tree-clause-asks g c =
    let w : Place = (g.D.Looks.sight (g.D.Terms.rest c.args.derives.now)).basis.place in
    let old : Contents = g.D.Terms.contents c.args.derives.now in
    let new : Contents = g.D.Terms.contents c.core_of.new.derives in
    asks_core_itself w old new c.core_of.ensures.leaves.keeps c.args.row.now c.args.e c.in_ok-v.v c.requires.e_in c.in_ok-v.ensures.told
    (sym c.same_tree.ensures ∙ c.if-same_tree.true)

pub returns-clause-asks : goal.returns-clause-asks
returns-clause-asks g c =
    let w : Place = (g.D.Looks.sight (g.D.Terms.rest c.args.derives.now)).basis.place in
    let old : Contents = g.D.Terms.contents c.args.derives.now in
    let new : Contents = g.D.Terms.contents c.core_of.new.derives in
    asks_core_more w old new c.core_of.ensures.leaves.keeps c.args.row.now c.push_question.new.row c.args.e c.in_ok-v.v c.requires.e_in c.in_ok-v.ensures.told
    c.in_ok-push_question.ensures.asks c.in_ok-push_question.ensures.steps
