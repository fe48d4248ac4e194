use Rattle.lk_rulebook.specs.Place.{Place}
use Rattle.lk_store.specs.Contents.{Contents, tree_at}
use Rattle.lk_derive_reduce.proofs.FormRuns.{core_within, at_core}
use Rattle.lk_derive_reduce.proofs.forms.core_first.Goals as goal

pub ask_core-requires-clause-answered : goal.ask_core-requires-clause-answered
ask_core-requires-clause-answered g c =
    let w : Place = (g.D.Looks.sight (g.D.Terms.rest c.args.derives.now)).basis.place in
    core_within w c.args.enough (tree_at (g.D.Terms.contents c.args.derives.now) c.args.e) c.requires.claimed

pub returns-clause-at : goal.returns-clause-at
returns-clause-at g c =
    let old : Contents = g.D.Terms.contents c.args.derives.now in
    let d : Contents = g.D.Terms.contents c.ask_core.new.derives in
    let w : Place = (g.D.Looks.sight (g.D.Terms.rest c.args.derives.now)).basis.place in
    at_core w c.args.enough old d c.args.row.now c.ask_core.new.row (tree_at old c.args.e) (tree_at d c.in_ok-v.v) c.requires.stated c.requires.empty c.requires.claimed c.in_ok-v.ensures.asks
