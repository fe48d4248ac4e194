use Rattle.lk_rulebook.specs.Place.{Place}
use Rattle.lk_store.specs.Contents.{Contents}
use Rattle.lk_step.proofs.PartsIn.{follows_core}
use Rattle.lk_step.proofs.under_way.then_core.Goals as goal

pub returns-clause-follows : goal.returns-clause-follows
returns-clause-follows g c =
    let w : Place = (g.D.Looks.sight (g.D.Terms.rest c.args.derives.now)).basis.place in
    let old : Contents = g.D.Terms.contents c.args.derives.now in
    let new : Contents = g.D.Terms.contents c.ask_core.new.derives in
    follows_core w old new c.ask_core.ensures.leaves.keeps c.args.row.now c.ask_core.new.row c.chain.new.row c.args.e c.args.r c.in_ok-v.v c.requires.e_in c.requires.r_in
    c.in_ok-v.ensures.asks c.in_ok-chain.ensures
