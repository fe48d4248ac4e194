use Rattle.lk_recursor.proofs.telescope.telescope_of.Goals as goal

pub add_runs-requires-clause-empty : goal.add_runs-requires-clause-empty
add_runs-requires-clause-empty g c = c.empty_telescope-telescope.ensures.is (g.T.Terms.contents c.args.terms.now)
