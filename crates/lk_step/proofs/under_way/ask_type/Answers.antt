use Rattle.lk_rulebook.specs.Place.{Place}
use Rattle.lk_store.specs.Contents.{Contents}
use Rattle.lk_step.proofs.PartsIn.{asks_type_more}
use Rattle.lk_step.proofs.under_way.ask_type.Goals as goal

pub returns-clause-asks : goal.returns-clause-asks
returns-clause-asks g c =
    let w : Place = (g.D.Looks.sight (g.D.Terms.rest c.args.derives.now)).basis.place in
    let old : Contents = g.D.Terms.contents c.args.derives.now in
    let new : Contents = g.D.Terms.contents c.type_of.new.derives in
    asks_type_more w old new c.type_of.ensures.leaves.keeps c.args.row.now c.push_question.new.row c.args.e c.in_ok-v.v c.requires.e_in c.in_ok-v.ensures.told
    c.in_ok-push_question.ensures.asks c.in_ok-push_question.ensures.steps
