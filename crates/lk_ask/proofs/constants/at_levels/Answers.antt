use Rattle.lk_store.specs.Store.{contents_of}
use Rattle.lk_store.specs.Contents.{list_at, tree_at}
use Rattle.lk_env.specs.Entries.{plain_entry}
use Rattle.lk_ask.proofs.MadeBefore.{of_unit}
use Rattle.lk_ask.proofs.constants.at_levels.Goals as goal

pub returns-clause-ok : goal.returns-clause-ok
returns-clause-ok g c =
    let lent = g.L.Lends.lent c.args.library.now in
    let base = contents_of lent.tables in
    let before = g.T.Terms.contents c.args.terms.now in
    let params = c.levels_of-params in
    of_unit base before (g.T.Terms.contents c.find_or_put.new.terms)
    (plain_entry base lent.units c.args.entry) params.result.now (list_at before c.args.tree.levels)
    (tree_at before c.args.tree.e) c.find_or_put.result c.requires.over params.ensures.known
    params.ensures.value c.find_or_put.ensures.puts.ok
