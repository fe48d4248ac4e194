use Rattle.lk_block.proofs.block.own_levels.Goals as goal

pub returns-clause-stays : goal.returns-clause-stays
returns-clause-stays g c = (g.met.A.Asks.decided c.parameter_levels.new.terms c.args.asks.now c.parameter_levels.ensures.rest).0

pub returns-clause-left : goal.returns-clause-left
returns-clause-left g c = (g.met.A.Asks.decided c.parameter_levels.new.terms c.args.asks.now c.parameter_levels.ensures.rest).1
